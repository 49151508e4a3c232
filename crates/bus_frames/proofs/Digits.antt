-- The digits of a C-state are those of its bytes.
use Rattle.std.proofs.Common.{◌≡◌, ℕ, ◌/◌, ◌%◌, true, false, List, [], ◌∷◌, ◌++◌, ap, sym, ◌∙◌, arith}
use Rattle.ttp_base.specs.NodeSet.{set_bits}
use Rattle.ttp_base.specs.Text.{hex, hex_bytes, hex_digit}
use Rattle.ttp_base.proofs.Gathered.{gather-behind}
use Rattle.ttp_world.specs.declared.node.CState.{CState}
use Rattle.ttp_world.specs.Frame.{big_endian, cstate_bytes}
use Rattle.ttp_world.specs.Medl.{member_bytes}

-- the two digits of a byte of a number
high : (v : ℕ) → v / 16 % 16 ≡ v % 256 / 16
high v = omega arith

low : (v : ℕ) → v % 16 ≡ v % 256 % 16
low v = omega arith

next-high : (v : ℕ) → v / 16 / 16 / 16 % 16 ≡ v / 256 % 256 / 16
next-high v = omega arith

next-low : (v : ℕ) → v / 16 / 16 % 16 ≡ v / 256 % 256 % 16
next-low v = omega arith

third-high : (v : ℕ) → v / 16 / 16 / 16 / 16 / 16 % 16 ≡ v / 256 / 256 % 256 / 16
third-high v = omega arith

third-low : (v : ℕ) → v / 16 / 16 / 16 / 16 % 16 ≡ v / 256 / 256 % 256 % 16
third-low v = omega arith

one-byte : (v : ℕ) → hex 2 v ≡ hex_bytes (big_endian 1 v)
one-byte v = λ i. hex_digit (high v i) ∷ hex_digit (low v i) ∷ []

two-bytes : (v : ℕ) → hex 4 v ≡ hex_bytes (big_endian 2 v)
two-bytes v = λ i.
    hex_digit (next-high v i) ∷ hex_digit (next-low v i) ∷ hex_digit (high v i) ∷ hex_digit (low v i) ∷ []

three-bytes : (v : ℕ) → hex 6 v ≡ hex_bytes (big_endian 3 v)
three-bytes v = λ i.
    hex_digit (third-high v i) ∷ hex_digit (third-low v i) ∷ hex_digit (next-high v i) ∷ hex_digit (next-low v i)
    ∷ hex_digit (high v i) ∷ hex_digit (low v i) ∷ []

pub state-wide : (c : CState)
    → hex 4 c.time ++ hex 2 c.round ++ hex 2 c.slot ++ hex 6 (set_bits c.members)
    ≡ hex_bytes (cstate_bytes (member_bytes true) c)
state-wide c = λ i.
    two-bytes c.time i ++ one-byte c.round i ++ one-byte c.slot i ++ three-bytes (set_bits c.members) i

pub state-narrow : (c : CState)
    → hex 4 c.time ++ hex 2 c.round ++ hex 2 c.slot ++ hex 4 (set_bits c.members)
    ≡ hex_bytes (cstate_bytes (member_bytes false) c)
state-narrow c = λ i.
    two-bytes c.time i ++ one-byte c.round i ++ one-byte c.slot i ++ two-bytes (set_bits c.members) i

-- a C-state is written part by part
module _ (old l1 l2 l3 l4 : List ℕ) (t r s m : ℕ) (c : CState) (p1 : l1 ≡ old ++ hex 4 t) (t_is : t ≡ c.time)
    (p2 : l2 ≡ l1 ++ hex 2 r) (r_is : r ≡ c.round) (p3 : l3 ≡ l2 ++ hex 2 s) (s_is : s ≡ c.slot)
    (m_is : m ≡ set_bits c.members) where
  pub wide-line : l4 ≡ l3 ++ hex 6 m → l4 ≡ old ++ hex_bytes (cstate_bytes (member_bytes true) c)
  wide-line p4 =
      p4 ∙ ap (λ l. l ++ hex 6 m) (p3 ∙ ap (λ l. l ++ hex 2 s) (p2 ∙ ap (λ l. l ++ hex 2 r) p1))
      ∙ sym (gather-behind old (hex 4 t ∷ hex 2 r ∷ hex 2 s ∷ hex 6 m ∷ []))
      ∙ (λ i. old ++ (hex 4 (t_is i) ++ hex 2 (r_is i) ++ hex 2 (s_is i) ++ hex 6 (m_is i)))
      ∙ ap (λ digits. old ++ digits) (state-wide c)

  pub narrow-line : l4 ≡ l3 ++ hex 4 m → l4 ≡ old ++ hex_bytes (cstate_bytes (member_bytes false) c)
  narrow-line p4 =
      p4 ∙ ap (λ l. l ++ hex 4 m) (p3 ∙ ap (λ l. l ++ hex 2 s) (p2 ∙ ap (λ l. l ++ hex 2 r) p1))
      ∙ sym (gather-behind old (hex 4 t ∷ hex 2 r ∷ hex 2 s ∷ hex 4 m ∷ []))
      ∙ (λ i. old ++ (hex 4 (t_is i) ++ hex 2 (r_is i) ++ hex 2 (s_is i) ++ hex 4 (m_is i)))
      ∙ ap (λ digits. old ++ digits) (state-narrow c)
