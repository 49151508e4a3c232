use Rattle.std.proofs.Common.{refl}
use Rattle.std.specs.Char.{encode_utf8}
use Rattle.std.specs.Str.{is_utf8, chars}
use Rattle.toml.proofs.OnLiterals.{toml_on_literals}
use Rattle.medl_text.specs.ListFile.{medl_of, document_of}
use Rattle.world_rows.proofs.OnLiterals.{lists_on_literals}
use Rattle.world_rows.proofs.list_files.texts.Goals as goal

pub returns : goal.returns
unfolding medl_of document_of is_utf8 chars encode_utf8 toml_on_literals lists_on_literals
returns c = record { right = refl; with_modes = refl; empty = refl; cut = refl }
