use Rattle.std.proofs.Common.{◌≡◌, ◌++◌, drop, length, map}
use Rattle.fit_table.specs.Wallet.{slots_in}
use Rattle.options_files.specs.Contents.{slots_of}
use Rattle.options_files.specs.code.Meant.{meant}
use Rattle.options_files.proofs.slots.wallet_with.Given as goal

abbrev pub invariant-loop-content : goal.invariant-loop-content
invariant-loop-content l = record {
  slots : slots_in l.wallet ++ slots_of (map meant (drop l.content-index l.contents)) ≡ slots_of
      (map meant l.contents);
  count : length (slots_in l.wallet) ≡ l.content-index;
}
