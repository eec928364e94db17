use Rattle.std.proofs.Common.{rules}
use Rattle.std.proofs.lemmas.List.Sorted.{IsPartitionPoint-from_clause}
use Rattle.dcql_answers.specs.code.Places.{is_before}
use Rattle.dcql_answers.proofs.Places.{parted}
use Rattle.dcql_answers.proofs.fits.place_from.Goals as goal

pub returns : goal.returns
returns c =
    let parts = parted c.args.fits.now c.requires c.args.query c.args.credential c.args.set in
    IsPartitionPoint-from_clause (is_before c.args.query c.args.credential c.args.set) _ _
    c.partition_point.ensures.partitioned parts (λ a r q k. search rules)
