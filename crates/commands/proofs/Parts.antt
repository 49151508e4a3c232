-- A line to which parts are added one after another.
use Rattle.std.proofs.Common.{◌≡◌, ℕ, List, ◌++◌, append_assoc}

pub four_parts : (l k m n o a b c d : List ℕ) → k ≡ l ++ a → m ≡ k ++ b → n ≡ m ++ c → o ≡ n ++ d
    → o ≡ l ++ (a ++ (b ++ (c ++ d)))
four_parts l k m n o a b c d first second third fourth = rw (fourth, third, second, first) (simp append_assoc)
