-- What an answer unfolds to compute a case on literals.
use Rattle.std.specs.Prelude.{⊤}
use Rattle.std.specs.Char.{encode_utf8}
use Rattle.std.specs.Str.{is_utf8, chars}
use Rattle.std.specs.Float.Numeral.{scan_numeral}
use Rattle.toml_datetime.specs.Parse.{two_digits, full_date, after_date, parse_datetime}
use Rattle.toml_datetime.specs.Valid.{is_valid_date}
use Rattle.toml_parser.specs.Lexical.{skip_ws, skip_from}
use Rattle.toml_parser.specs.Strings.{hex_escape, escape_char, escape, special, body}
use Rattle.toml_parser.specs.Strings.{one_line, quoted, simple_key, key_after}
use Rattle.toml_parser.specs.Numbers.{underscore_fits, prefixed_integer, decimal_number, plain_number}
use Rattle.toml_parser.specs.Numbers.{number, word_value, word_len, unquoted}
use Rattle.toml.specs.Parse.{skip_bom}
use Rattle.toml_walk.specs.Halting.{token_at, reason_of, no_value_there}
use Rattle.toml_walk.specs.Names.{put, header_opened}
use Rattle.toml_walk.specs.Walk.{pair_key, after_element, atom, items, members, value, header_key}
use Rattle.toml_walk.specs.Walk.{expression, statement, lines, read_all, stop_of, member, element}
use Rattle.list_places.specs.Marks.{member_places, element_places, marks_from, marks_of}
use Rattle.list_places.specs.Places.{found_places, stop_told}

unfoldable pub on_literals : ⊤
unfolding is_utf8 chars encode_utf8 scan_numeral two_digits full_date after_date parse_datetime is_valid_date skip_ws
    skip_from hex_escape escape_char escape special body one_line quoted simple_key key_after underscore_fits
    prefixed_integer decimal_number plain_number number word_value word_len unquoted skip_bom token_at reason_of
    no_value_there put header_opened pair_key after_element atom items members value header_key expression statement
    lines read_all stop_of member element member_places element_places marks_from marks_of found_places stop_told
on_literals = tt
