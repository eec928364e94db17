-- What the parser finds and the command that the words are.
use Rattle.std.proofs.Common.{◌≡◌, true, List, [], ◌∷◌, Option, None, ap, refl, sym, ◌∙◌}
use Rattle.clap.specs.Words.{App, IsAmong, Kinds, Row, Text, fault_of, is_simple}
use Rattle.clap.specs.Words.{is_simple_and_free, subcommand_of}
use Rattle.clap.specs.declared.error.kind.ErrorKind.{ErrorKind}
use Rattle.wallet_words.specs.Command.{Command, command_in, command_of, if_faultless}
use Rattle.wallet_words.specs.Parser.{wallet_parser}

pub simple : (a : App) → a ≡ wallet_parser → is_simple a ≡ true
simple a same = ap is_simple same

pub free : (a : App) → a ≡ wallet_parser → is_simple_and_free a ≡ true
free a same = ap is_simple_and_free same

pub taken : (a : App) (words : List Text) (found : Option (Text × List Row)) → a ≡ wallet_parser
    → fault_of a words ≡ [] → found ≡ subcommand_of a words → command_in found ≡ command_of words
unfolding command_of
taken a words found same faultless finds =
    ap command_in (finds ∙ ap (λ x. subcommand_of x words) same)
    ∙ sym (ap (λ kinds. if_faultless kinds (command_in (subcommand_of wallet_parser words)))
    (ap (λ x. fault_of x words) (sym same) ∙ faultless))

refused : (kinds : Kinds) (kind : ErrorKind) (o : Option Command) → IsAmong kind kinds
    → if_faultless kinds o ≡ None
refused [] kind o among = absurd among
refused (k ∷ ks) kind o among = refl

pub untaken : (a : App) (words : List Text) (kind : ErrorKind) → a ≡ wallet_parser
    → IsAmong kind (fault_of a words) → command_of words ≡ None
unfolding command_of
untaken a words kind same among =
    ap (λ x. if_faultless (fault_of x words) (command_in (subcommand_of wallet_parser words))) (sym same)
    ∙ refused (fault_of a words) kind _ among
