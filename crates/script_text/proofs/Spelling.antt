-- A word that is spelled like a text, byte by byte.
use Rattle.script_text.proofs.Terms.{◌≡◌, ℕ, ◌<◌, true, List, length, get_or, arith, ext_get_or, bytes_eq-Decides}
use Rattle.script_text.proofs.Terms.{is_text}

pub is_text-all : (text word : List ℕ) → length word ≡ length text
    → ((k : ℕ) → k < length text → get_or word k 0 ≡ get_or text k 0) → is_text text word ≡ true
is_text-all text word size same =
    (bytes_eq-Decides word text).1 (ext_get_or 0 word text size (λ k within. same k (omega (arith, size))))
