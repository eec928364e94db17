use Rattle.std.proofs.Common.{lit<}
use Rattle.option_list.proofs.Parts.{not_cut, was_cut, pick_uncut, no_credential, no_set}
use Rattle.option_list.proofs.picks.read_pick.Goals as goal

pub returns-in_default : goal.returns-in_default
returns-in_default c =
    pick_uncut c.args.text.now
    (not_cut 46 _ c.split_once.result c.split_once.ensures.cases (lit< tt) c.in_default.is)

pub returns-in_default-read_number : goal.returns-in_default-read_number
returns-in_default-read_number c =
    no_credential c.args.text.now _ _
    (was_cut 46 _ c.split_once.result _ c.split_once.ensures.cases (lit< tt) c.in-Some.is)
    c.in_default-read_number.ensures

pub returns-in-None : goal.returns-in-None
returns-in-None c =
    no_set c.args.text.now _ _
    (was_cut 46 _ c.split_once.result _ c.split_once.ensures.cases (lit< tt) c.in-Some.is) c.in-None.ensures
