use Rattle.std.proofs.Common.{◌≡◌, drop}
use Rattle.request_clients.specs.Clients.{key_of}
use Rattle.request_clients.proofs.clients.key_of.Given as goal

abbrev pub invariant-loop-client : goal.invariant-loop-client
invariant-loop-client l = key_of (drop l.client-index l.clients) l.id ≡ key_of l.clients l.id
