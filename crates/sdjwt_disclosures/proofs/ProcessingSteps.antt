-- The rules on places, one after another.
use Rattle.std.proofs.Common.{◌≡◌, ℕ, Bool, true, false, ◌||◌, List, [], ◌∷◌, ◌++◌, map, Option, Some, None}
use Rattle.std.proofs.Common.{refl, sym, ap, ap₂, ◌∙◌, subst, Vec, Global}
use Rattle.std.specs.List.{flat_map, list_any}
use Rattle.std.proofs.lemmas.List.Folds.{list_any-append}
use Rattle.serde_json.specs.Data.{Data}
use Rattle.base_forms.specs.Rules.{rule, first}
use Rattle.base_forms.specs.Texts.{differ}
use Rattle.sdjwt_digests.specs.Disclosures.{Disclosed}
use Rattle.sdjwt_digests.specs.DigestSites.{Site, digest_at, all_sites, values_sites, sites_in}
use Rattle.sdjwt_digests.specs.code.Disclosures.{sites_said}
use Rattle.sdjwt_digests.specs.code.Sites.{AreSitesOf, all_in}
use Rattle.sdjwt_digests.specs.declared.digest_sites.Site.{Site as OwnSite}
use Rattle.sdjwt_digests.specs.declared.digest_sites.Sites.{Sites}
use Rattle.sdjwt_disclosures.specs.Reachable.{are_reached}
use Rattle.sdjwt_disclosures.specs.code.Marked.{all_walked}
use Rattle.sdjwt_disclosures.proofs.Marked.{walked_is_reached}
use Rattle.std.specs.Prelude.{IfOk, Result, Ok, Err}
use Rattle.sdjwt_disclosures.specs.DisclosureRules.{reserved_names_rule, double_rule, reach_rule, depth_rule}
use Rattle.sdjwt_disclosures.specs.DisclosureRules.{own_site_rule, processing_rule}
use Rattle.sdjwt_disclosures.specs.Processed.{IsProcessed}
use Rattle.sdjwt_disclosures.specs.code.Processed.{IsOwnProcessed}
use Rattle.sdjwt_disclosures.specs.declared.processing.Processed.{Processed}
use Rattle.sdjwt_disclosures.specs.declared.processing.Processed.TheVariants.{Tree, Broken}
use Rattle.claim_tree.specs.Parts.{Named}
use Rattle.sdjwt_disclosures.specs.DisclosedTree.{spelled_payload}

pub first_here : (a : Option ℕ) (rest : List (Option ℕ)) (n : ℕ) → a ≡ Some n → first (a ∷ rest) ≡ Some n
first_here a rest n e = ap (λ x. first (x ∷ rest)) e

pub first_past : (a : Option ℕ) (rest : List (Option ℕ)) → a ≡ None → first (a ∷ rest) ≡ first rest
first_past a rest e = ap (λ x. first (x ∷ rest)) e

pub last_here : (a : Option ℕ) → first (a ∷ []) ≡ a
last_here None = refl
last_here (Some n) = refl

pub not_apart : (payload : Data) (ls : List Disclosed) → differ (map digest_at (all_sites payload ls)) ≡ false
    → double_rule payload ls ≡ Some 9
unfolding double_rule rule
not_apart payload ls e = rw e refl

pub all_apart : (payload : Data) (ls : List Disclosed) → differ (map digest_at (all_sites payload ls)) ≡ true
    → double_rule payload ls ≡ None
unfolding double_rule rule
all_apart payload ls e = rw e refl

pub not_differ : (payload : Data) (ls : List Disclosed) → differ (map (λ l. l.digest) ls) ≡ false
    → reach_rule payload ls ≡ Some 10
unfolding reach_rule rule
not_differ payload ls e = rw e refl

pub not_reached : (payload : Data) (ls : List Disclosed) → differ (map (λ l. l.digest) ls) ≡ true
    → are_reached payload ls ≡ false → reach_rule payload ls ≡ Some 10
unfolding reach_rule rule
not_reached payload ls e f = rw (e, f) refl

pub all_reached : (payload : Data) (ls : List Disclosed) → differ (map (λ l. l.digest) ls) ≡ true
    → are_reached payload ls ≡ true → reach_rule payload ls ≡ None
unfolding reach_rule rule
all_reached payload ls e f = rw (e, f) refl

pub too_deep : (payload : Data) (ls : List Disclosed) → spelled_payload ls payload ≡ None
    → depth_rule payload ls ≡ Some 14
unfolding depth_rule rule
too_deep payload ls e = rw e refl

pub deep_enough : (payload : Data) (ls : List Disclosed) (ns : List Named)
    → spelled_payload ls payload ≡ Some ns → depth_rule payload ls ≡ None
unfolding depth_rule rule
deep_enough payload ls ns e = rw e refl

pub none_if : (o : Option ℕ) → ((n : ℕ) → o ≡ Some n → ⊥) → o ≡ None
none_if None h = refl
none_if (Some n) h = absurd (h n refl)

-- where the first rules are not broken, those from the tenth on decide
pub own_processed : (payload : Data) (ls : List Disclosed) → reserved_names_rule payload ls ≡ None
    → double_rule payload ls ≡ None → (processed : Processed) → IsOwnProcessed payload ls processed
    → IsProcessed payload ls processed
unfolding processing_rule
own_processed payload ls m d (Tree members) h =
    (first_past _ _ m ∙ first_past _ _ d ∙ last_here (own_site_rule payload ls) ∙ h.0, h.1)
own_processed payload ls m d (Broken n) h = first_past _ _ m ∙ first_past _ _ d
    ∙ last_here (own_site_rule payload ls) ∙ h

pub own_result : {E : Type 0} (payload : Data) (ls ks : List Disclosed) → ks ≡ ls
    → reserved_names_rule payload ls ≡ None → double_rule payload ls ≡ None → (r : Result Processed E)
    → IfOk r (IsOwnProcessed payload ks) → IfOk r (IsProcessed payload ls)
own_result payload ls ks e m d (Ok processed) h =
    own_processed payload ls m d processed (subst (λ xs. IsOwnProcessed payload xs processed) e h)
own_result payload ls ks e m d (Err x) h = tt

-- ---- the sites in the payload and in the disclosures' values

values_together : (vs : List (Vec OwnSite Global)) (ls : List Disclosed)
    → map sites_said vs ≡ map (λ l. sites_in l.value) ls → flat_map sites_said vs ≡ values_sites ls
values_together [] [] h = refl
values_together [] (l ∷ ls) h = absurd (cc h)
values_together (v ∷ vs) [] h = absurd (cc h)
values_together (v ∷ vs) (l ∷ ls) h = ap₂ (λ xs ys. xs ++ ys) (cc h) (values_together vs ls (cc h))

pub all_together : (sites : Sites) (payload : Data) (ls : List Disclosed) → AreSitesOf sites payload ls
    → all_in sites ≡ all_sites payload ls
all_together sites payload ls h =
    ap₂ (λ xs ys. xs ++ ys) h.in_payload (values_together sites.values.items ls h.in_values)

-- what is walked to by the sites is reached
pub by_sites : (sites : Sites) (payload : Data) (ls : List Disclosed) (b : Bool) → AreSitesOf sites payload ls
    → b ≡ all_walked (sites_said sites.payload) ls → are_reached payload ls ≡ b
by_sites sites payload ls b h e =
    sym (e ∙ ap (λ ps. all_walked ps ls) h.in_payload ∙ walked_is_reached payload ls)

any_value : (t : Site → Bool) (vs : List (Vec OwnSite Global))
    → list_any t (flat_map sites_said vs) ≡ list_any (λ v. list_any t (sites_said v)) vs
any_value t [] = refl
any_value t (v ∷ vs) = list_any-append t (sites_said v) (flat_map sites_said vs)
    ∙ ap (λ b. list_any t (sites_said v) || b) (any_value t vs)

pub any_together : (t : Site → Bool) (ps : List Site) (vs : List (Vec OwnSite Global))
    → list_any t ps ≡ false
    → list_any t (ps ++ flat_map sites_said vs) ≡ list_any (λ v. list_any t (sites_said v)) vs
any_together t ps vs h = list_any-append t ps (flat_map sites_said vs)
    ∙ ap (λ b. b || list_any t (flat_map sites_said vs)) h ∙ any_value t vs

-- a test of all sites
pub tested_together : (t : Site → Bool) (sites : Sites) (payload : Data) (ls : List Disclosed) (b : Bool)
    → AreSitesOf sites payload ls → b ≡ list_any t (all_in sites) → b ≡ list_any t (all_sites payload ls)
tested_together t sites payload ls b h e = e ∙ ap (list_any t) (all_together sites payload ls h)
