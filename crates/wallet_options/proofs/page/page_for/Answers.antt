use Rattle.std.proofs.Common.{◌≡◌, ◌∙◌, ℕ, List, ap, ap₂, option_map, subst}
use Rattle.fit_table.specs.Slot.{Stands}
use Rattle.option_texts.specs.Notes.{notes_text}
use Rattle.options_files.specs.Contents.{slots_of}
use Rattle.wallet_answers.specs.Admitted.{AreFits}
use Rattle.wallet_answers.specs.Holding.{Holding}
use Rattle.wallet_options.specs.Options.{holding, page_outcome}
use Rattle.wallet_options.proofs.Replies.{page_lists, none_by}
use Rattle.wallet_options.proofs.page.page_for.Goals as goal

pub with_page-requires : goal.with_page-requires
with_page-requires g c =
    page_lists c.args.query.now c.in_ok-fits.fits c.in_ok-page.page.answers c.in_ok-page.ensures.admitted

pub returns-in_err-page-clause-refused : goal.returns-in_err-page-clause-refused
returns-in_err-page-clause-refused g c = λ listing.
    let held = (g.K.KeyDevice.state c.args.device.now).held in
    let h : Holding = holding (slots_of c.args.credentials.now) held c.args.now in
    let are : AreFits c.args.query.now h c.in_ok-fits.fits =
    subst (λ (s : List Stands). AreFits c.args.query.now (holding s held c.args.now) c.in_ok-fits.fits)
    c.in_ok-wallet.ensures c.in_ok-fits.ensures in
    none_by _ _ c.in_err-page.field-0.0 c.from_residual-in_err-page.ensures.1
    (c.in_err-page.ensures.refused listing h are)

pub returns-clause-reply : goal.returns-clause-reply
returns-clause-reply g c = λ listing.
    let held = (g.K.KeyDevice.state c.args.device.now).held in
    let h : Holding = holding (slots_of c.args.credentials.now) held c.args.now in
    let are : AreFits c.args.query.now h c.in_ok-fits.fits =
    subst (λ (s : List Stands). AreFits c.args.query.now (holding s held c.args.now) c.in_ok-fits.fits)
    c.in_ok-wallet.ensures c.in_ok-fits.ensures in (
      record { answers = c.in_ok-page.page.answers; end = c.in_ok-page.page.end },
      c.in_ok-page.ensures.page listing h are,
      c.in_ok-with_page.ensures
          ∙ ap₂ (λ (notes : List ℕ) (slots : List Stands). page_outcome
          (option_map (λ token. token.now) c.args.asked.after) notes slots c.args.query.now
          (record { answers = c.in_ok-page.page.answers; end = c.in_ok-page.page.end }))
          (c.in_ok-text.ensures ∙ ap (notes_text held c.args.now 0) c.in_ok-wallet.ensures) c.in_ok-wallet.ensures,
    )
