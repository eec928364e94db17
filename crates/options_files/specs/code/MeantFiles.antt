-- What the code has read of all the files.
use Rattle.std.specs.Prelude.{string_bytes}
use Rattle.options_files.specs.Reading.{Files, files}
use Rattle.options_files.specs.declared.files.Files as code

abbrev pub meant_files : code.Files → Files
meant_files f = files (string_bytes f.request) f.clients f.credentials
