use Rattle.std.proofs.Common.{◌-◌, ◌<◌, ◌≤◌, map, length, get_or, set, true, refl, sym, ap, ◌∙◌, arith}
use Rattle.std.proofs.lemmas.List.{drop_all}
use Rattle.sdjwt_digests.specs.DigestSites.{sites_in}
use Rattle.sdjwt_digests.specs.code.Disclosures.{all_said, site_of}
use Rattle.sdjwt_digests.specs.code.Indexes.{first_index}
use Rattle.sdjwt_disclosures.specs.code.Marked.{marked, walked, walked_by, walked_from}
use Rattle.sdjwt_disclosures.proofs.Marked.{marked_none, loop_step, kept_length, site_absent, site_found}
use Rattle.sdjwt_disclosures.proofs.Marked.{index_within, no_steps, more_steps, absent_if}
use Rattle.sdjwt_disclosures.proofs.reachable.+mark.Goals as goal

pub mark_reached-returns-then-fuel-eq0 : goal.mark_reached-returns-then-fuel-eq0
mark_reached-returns-then-fuel-eq0 t c = no_steps c.args.fuel (all_said c.args.disclosures.now)
    (map site_of c.args.sites.now) c.args.marks.now.items (omega arith)

pub mark_reached-loop-site-preserved : goal.mark_reached-loop-site-preserved
mark_reached-loop-site-preserved t c =
    let ls = all_said c.args.disclosures.now in
    let below : c.loop-site.site-index < length c.args.sites.now = omega (arith, c.loop-site-test.true) in
    record {
      rest = loop_step (c.args.fuel - 1) ls c.args.sites.now c.loop-site.site-index _ c.loop-site.marks.items
          c.mark_site.new.marks.items _ below c.mark_site.ensures c.loop-site.invariant.rest;
      count = kept_length (walked_from (c.args.fuel - 1) ls (site_of (get_or c.args.sites.now
          c.loop-site.site-index _))) ls c.loop-site.marks.items c.mark_site.new.marks.items
          c.mark_site.ensures c.loop-site.invariant.count;
    }

pub mark_reached-returns : goal.mark_reached-returns
mark_reached-returns t c =
    let ls = all_said c.args.disclosures.now in
    let n = c.args.fuel - 1 in
    let past : length c.args.sites.now ≤ c.loop-site.site-index = omega (arith, c.loop-site-test.false) in
    sym (ap (λ ss. marked (walked_by (λ d. walked n ls (sites_in d)) ls (map site_of ss)) ls
    c.loop-site.marks.items) (drop_all c.loop-site.site-index c.args.sites.now past)
    ∙ marked_none ls c.loop-site.marks.items)
    ∙ c.loop-site.invariant.rest
    ∙ more_steps c.args.fuel ls (map site_of c.args.sites.now) c.args.marks.now.items (omega arith)

pub mark_site-returns-in_default : goal.mark_site-returns-in_default
mark_site-returns-in_default t c =
    site_absent c.args.fuel (all_said c.args.disclosures.now) (site_of c.args.site) c.args.marks.now.items
    (ap (λ x. first_index x (map (λ l. l.digest) (all_said c.args.disclosures.now))) (sym c.digest.ensures)
    ∙ sym c.index_of.ensures ∙ absent_if c.index_of.result c.in_default.not-Some)

pub mark_site-index_mut-requires : goal.mark_site-index_mut-requires
mark_site-index_mut-requires t c =
    let p : (c.in-Some.index < length c.args.values.now) × (c.in-Some.index < length c.args.marks.now.items) =
    index_within c.digest.result.now (all_said c.args.disclosures.now) c.args.values.now
    c.args.marks.now.items c.in-Some.index c.requires.values c.requires.marks
    (sym c.index_of.ensures ∙ c.in-Some.is) in
    omega (arith, p.1)

pub mark_site-offset_bounds-values-index : goal.mark_site-offset_bounds-values-index
mark_site-offset_bounds-values-index t c =
    let p : (c.in-Some.index < length c.args.values.now) × (c.in-Some.index < length c.args.marks.now.items) =
    index_within c.digest.result.now (all_said c.args.disclosures.now) c.args.values.now
    c.args.marks.now.items c.in-Some.index c.requires.values c.requires.marks
    (sym c.index_of.ensures ∙ c.in-Some.is) in
    grind (arith, p.0)

pub mark_site-bounds-values-index : goal.mark_site-bounds-values-index
mark_site-bounds-values-index t c =
    let p : (c.in-Some.index < length c.args.values.now) × (c.in-Some.index < length c.args.marks.now.items) =
    index_within c.digest.result.now (all_said c.args.disclosures.now) c.args.values.now
    c.args.marks.now.items c.in-Some.index c.requires.values c.requires.marks
    (sym c.index_of.ensures ∙ c.in-Some.is) in
    p.0

pub mark_site-returns : goal.mark_site-returns
mark_site-returns t c =
    site_found c.args.fuel (all_said c.args.disclosures.now) (site_of c.args.site) c.args.values.now
    c.in-Some.index c.index-values-index.result c.args.marks.now.items
    (set c.args.marks.now.items c.in-Some.index true) c.mark_reached.new.marks.items
    c.requires.differ c.requires.values c.requires.marks
    (ap (λ x. first_index x (map (λ l. l.digest) (all_said c.args.disclosures.now))) (sym c.digest.ensures)
    ∙ sym c.index_of.ensures ∙ c.in-Some.is)
    refl c.index-values-index.is
    (c.mark_reached.ensures ∙ ap (λ ss. marked (walked c.args.fuel (all_said c.args.disclosures.now)
    (map site_of ss)) (all_said c.args.disclosures.now)
    (set c.args.marks.now.items c.in-Some.index true)) c.deref.ensures.value)
