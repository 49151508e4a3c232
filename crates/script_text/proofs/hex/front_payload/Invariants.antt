use Rattle.script_text.proofs.Terms.{◌≡◌, ℕ, ◌*◌, ◌≤◌, ◌++◌, drop, take, length, get_or, is_hex_word, digit_bytes_in}
use Rattle.script_text.proofs.hex.front_payload.Given as goal

-- the bytes so far, and those of the other digits, with zeros behind
abbrev pub invariant-loop-i : goal.invariant-loop-i
invariant-loop-i l =
    let word = take (2 * l.size) l.text in
    record {
      room : length l.bytes ≡ 240;
      bytes : take l.i l.bytes ++ digit_bytes_in (drop (2 * l.i) word) ≡ digit_bytes_in word;
      digits : is_hex_word (drop (2 * l.i) word) ≡ is_hex_word word;
      zeros : (k : ℕ) → l.i ≤ k → get_or l.bytes k 0 ≡ 0;
    }
