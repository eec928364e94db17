use Rattle.std.specs.Option.{option_copied}
use Rattle.runs.specs.World.{World}
use Rattle.runs.proofs.Each.{IsRest}
use Rattle.wallet_files.specs.CredentialFile.{read_credential}
use Rattle.wallet_files.specs.code.Entries.{meant}
use Rattle.wallet_top.proofs.listing.read_credentials.Given as goal

-- a run of what is left is a run of the whole, with what was found before it
abbrev pub invariant-loop-entry : goal.invariant-loop-entry
invariant-loop-entry g l = record {
  runs : (w : World)
      → IsRest meant (read_credential (option_copied l.wanted)) l.entries l.entry-index l.findings.items
      (record w { store = g.S.Store.state l.initial.store }) (record w { store = g.S.Store.state l.store });
}
