use Rattle.option_texts.proofs.Told.{pages_have_lists, admitted_are_picked}
use Rattle.option_texts.proofs.laws.picks_are_told.Goals as goal

pub returns : goal.returns
returns c = record { lists = pages_have_lists; picked = admitted_are_picked }
