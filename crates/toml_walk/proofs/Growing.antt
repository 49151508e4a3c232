-- A value that is noted takes no table away.
use Rattle.std.proofs.Common.{◌≡◌, ℕ, ◌+◌, ◌≤◌, Bool, true, false, List, [], ◌∷◌, Option, Some}
use Rattle.std.proofs.Common.{None, is_some, option_and_then, if◌then◌else◌, refl, ap, arith}
use Rattle.toml_parser.specs.Strings.{Key}
use Rattle.toml_walk.specs.declared.names.Origin.TheVariants as origin
use Rattle.toml_walk.specs.declared.names.Holds.{Holds}
use Rattle.toml_walk.specs.declared.names.Holds.TheVariants as holds
use Rattle.toml_walk.specs.Names.{Noted, Leads, held_by, noting, dot_through, pass_dot, along, put, put_last}

abbrev led_tables : Leads → ℕ
led_tables None = 0
led_tables (Some p) = p.1.tables

dot_grows : (t : ℕ) (k : List ℕ) (noted : Noted) (held : Option Holds) (p : ℕ × Noted)
    → dot_through t k noted held ≡ Some p → noted.tables ≤ p.1.tables
dot_grows t k noted None p is = let same : noted.tables + 1 ≡ p.1.tables = ap led_tables is in omega arith
dot_grows t k noted (Some holds.Value) p is = absurd (grind arith)
dot_grows t k noted (Some (holds.Table origin.Header number)) p is = absurd (grind arith)
dot_grows t k noted (Some (holds.Table origin.Implicit number)) p is =
    let same : noted.tables ≡ p.1.tables = ap led_tables is in omega arith
dot_grows t k noted (Some (holds.Table origin.Dotted number)) p is =
    let same : noted.tables ≡ p.1.tables = ap led_tables is in omega arith
dot_grows t k noted (Some (holds.Array last)) p is = absurd (grind arith)

step_grows : (ks : List (List ℕ)) (noted : Noted) (p : ℕ × Noted) (o : Leads)
    → ((q : ℕ × Noted) → o ≡ Some q → noted.tables ≤ q.1.tables)
    → ((t : ℕ) (now : Noted) → along pass_dot ks t now ≡ Some p → now.tables ≤ p.1.tables)
    → option_and_then (λ q. along pass_dot ks q.0 q.1) o ≡ Some p → noted.tables ≤ p.1.tables
step_grows ks noted p None grows rest is = absurd (grind arith)
step_grows ks noted p (Some q) grows rest is = omega (arith, grows q refl, rest q.0 q.1 is)

along_grows : (ks : List (List ℕ)) (t : ℕ) (noted : Noted) (p : ℕ × Noted)
    → along pass_dot ks t noted ≡ Some p → noted.tables ≤ p.1.tables
along_grows [] t noted p is = let same : noted.tables ≡ p.1.tables = ap led_tables is in omega arith
along_grows (k ∷ ks) t noted p is =
    step_grows ks noted p (pass_dot t k noted) (dot_grows t k noted (held_by t k noted.names))
    (λ next now. along_grows ks next now p) is

abbrev noted_tables : Option Noted → ℕ
noted_tables None = 0
noted_tables (Some noted) = noted.tables

end_grows : (noted more now : Noted) (b : Bool) (t : ℕ) (key : List ℕ) → noted.tables ≤ now.tables
    → (if b then None else Some (noting t key holds.Value now)) ≡ Some more → noted.tables ≤ more.tables
end_grows noted more now true t key grown is = absurd (grind arith)
end_grows noted more now false t key grown is =
    let same : now.tables ≡ more.tables = ap noted_tables is in
    omega arith

last_grows : (noted more : Noted) (key : List ℕ) (o : Leads)
    → ((q : ℕ × Noted) → o ≡ Some q → noted.tables ≤ q.1.tables)
    → option_and_then (λ p. put_last p.0 key p.1) o ≡ Some more → noted.tables ≤ more.tables
last_grows noted more key None grows is = absurd (grind arith)
last_grows noted more key (Some q) grows is =
    end_grows noted more q.1 (is_some (held_by q.0 key q.1.names)) q.0 key (grows q refl) is

pub put_grows : (t : ℕ) (key : Key) (noted more : Noted) → put t key noted ≡ Some more → noted.tables ≤ more.tables
unfolding put
put_grows t key noted more is =
    last_grows noted more key.1 (along pass_dot key.0 t noted) (along_grows key.0 t noted) is
