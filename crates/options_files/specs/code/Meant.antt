-- What the code holds of a credential file.
use Rattle.std.specs.Prelude.{string_bytes}
use Rattle.options_files.specs.Contents.{Content, text, document, unreadable}
use Rattle.options_files.specs.declared.content.Content as code
use Rattle.options_files.specs.declared.content.Content.TheVariants.{Text, Document, Unreadable}

abbrev pub meant : code.Content → Content
meant (Text t) = text (string_bytes t)
meant (Document bytes) = document bytes.items
meant Unreadable = unreadable
