use Rattle.wallet_top.proofs.top.perform.Goals as goal

pub returns-in-Try : goal.returns-in-Try
returns-in-Try g c = rw c.in-Try.is c.try_query.ensures

pub returns-in-List : goal.returns-in-List
returns-in-List g c = rw c.in-List.is c.list_credentials.ensures
