-- What is asked, as the code has it.
use Rattle.std.specs.Prelude.{option_map}
use Rattle.wallet_options.specs.Options.{Asked}
use Rattle.wallet_options.specs.declared.asked.Asked as code

abbrev pub meant : code.Asked → Asked
meant a = record {
  request = a.request.now;
  wallet = a.wallet.now;
  clients = a.clients.now;
  after = option_map (λ token. token.now) a.after;
  count = a.count;
}
