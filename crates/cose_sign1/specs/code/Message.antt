-- What a message in memory stands for.
use Rattle.cose_sign1.specs.Sign1.{Message}
use Rattle.cose_sign1.specs.code.Parts.{said}
use Rattle.cose_sign1.specs.declared.sign1.Sign1.{Sign1}

abbrev pub message : Sign1 → Message
message s = said s.parts
