-- Lines that are put one after another.
use Rattle.std.proofs.Common.{◌≡◌, ℕ, ◌+◌, ◌<◌, List, [], ◌∷◌, ◌++◌, length, map, take}
use Rattle.std.proofs.Common.{drop, get_or, refl, ap, sym, subst, ◌∙◌, append_assoc}
use Rattle.std.proofs.Common.{Option, Some, None, Bool, true, false, cond, arith, length-append}
use Rattle.std.proofs.lemmas.List.{append-nil, map-append, take_more}
use Rattle.std.proofs.lemmas.List.Concat.{flat_map-append}
use Rattle.ttp_base.specs.NodeSet.{below}
use Rattle.ttp_base.specs.Outside.{Output, WroteLines, CutShort}
use Rattle.ttp_base.specs.Text.{Lines, newline, is_newline, before_lines, lines_of}
use Rattle.ttp_base.proofs.Below.{map-next}
use Rattle.ttp_base.proofs.Outputs.{Wrote-join, Wrote-none, CutShort-after, CutShort-more}
use Rattle.check_text.proofs.FromBelow.{first_line, concat-lines_of, fewer-after, fewer-more, fewer-none}
use Rattle.fault_runs.specs.declared.put.CampaignFault.{CampaignFault}
use Rattle.fault_runs.specs.declared.put.CampaignFault.TheVariants as fault
use Rattle.fault_runs.specs.Ends.{LeftFewerBy, WroteFewer}
use Rattle.check_text.specs.Page.{HasPutSoFar, PutsOn, pieces_of}

-- no lines, and lines in two parts
pub puts_none : (f : Option CampaignFault) (a : Output) → PutsOn f a f a []
puts_none f a = record { puts = λ start before put. subst (HasPutSoFar f start a) (sym (append-nil before)) put }

pub puts_then : (f g h : Option CampaignFault) (a b c : Output) (x y : Lines) → PutsOn f a g b x → PutsOn g b h c y
    → PutsOn f a h c (x ++ y)
puts_then f g h a b c x y p q = record {
  puts = λ start before put.
      subst (HasPutSoFar h start c) (append_assoc before x y) (q.puts start (before ++ x) (p.puts start before put));
}

-- the pieces of a line behind lines
behind : (before : Lines) (line : List ℕ) → pieces_of before ++ lines_of line ≡ pieces_of (before ++ line ∷ [])
behind before line =
    ap (λ (ls : Lines). pieces_of before ++ ls) (sym (append-nil (lines_of line)))
    ∙ sym (flat_map-append lines_of before (line ∷ []))

-- a line that was written, or was not written whole
pub puts_wrote : (a b : Output) (line : List ℕ) → WroteLines a b (lines_of line) → PutsOn None a None b (line ∷ [])
puts_wrote a b line wrote = record {
  puts = λ start before put.
      subst (WroteLines start b) (behind before line)
      (Wrote-join start a b (pieces_of before) (lines_of line) put wrote);
}

pub puts_left : (why : CampaignFault) (a b : Output) (line : List ℕ) → LeftFewerBy why a b (lines_of line)
    → PutsOn None a (Some why) b (line ∷ [])
puts_left why a b line left = record {
  puts = λ start before put.
      subst (LeftFewerBy why start b) (behind before line)
      (fewer-after why start a b (pieces_of before) (lines_of line) put left);
}

-- behind the end
pub puts_nothing : (why : CampaignFault) (a : Output) (x : Lines) → PutsOn (Some why) a (Some why) a x
puts_nothing why a x = record {
  puts = λ start before put.
      subst (LeftFewerBy why start a) (sym (flat_map-append lines_of before x))
      (fewer-more why start a (pieces_of before) (pieces_of x) put);
}

-- Pieces.

-- what is cut off the front of a line that has some bytes is its first piece
uncons : (lines : Lines) → 0 < length lines → lines ≡ get_or lines 0 [] ∷ drop 1 lines
uncons [] some = absurd (omega (arith, some))
uncons (line ∷ lines) some = refl

-- a line has a first piece
some_piece : (line : List ℕ) → 0 < length line → (first : List ℕ) × ((rest : Lines) × (lines_of line ≡ first ∷ rest))
some_piece [] some = absurd (omega (arith, some))
some_piece (b ∷ line) some = by_feed (is_newline b) (lines_of line)
  where
    by_feed : (feed : Bool) (lines : Lines)
        → (first : List ℕ) × ((rest : Lines) × (cond feed (newline ∷ lines) (before_lines b lines) ≡ first ∷ rest))
    by_feed true lines = (newline, (lines, refl))
    by_feed false [] = (b ∷ [], ([], refl))
    by_feed false (l ∷ lines) = (b ∷ l, (lines, refl))

pub cut_front : (text piece rest : List ℕ) → get_or (lines_of text) 0 [] ≡ piece
    → drop 1 (lines_of text) ≡ lines_of rest
    → 0 < length text → lines_of text ≡ piece ∷ lines_of rest
cut_front text piece rest first others some =
    let has = some_piece text some in
    let count : 0 < length (lines_of text) = omega (arith, ap length has.1.1) in
    uncons (lines_of text) count
    ∙ ap (λ (p : List ℕ). p ∷ drop 1 (lines_of text)) first ∙ ap (λ (ls : Lines). piece ∷ ls) others

-- which has some bytes
piece_some : (text piece : List ℕ) (others : Lines) → lines_of text ≡ piece ∷ others → 0 < length piece
piece_some [] piece others is = absurd cc
piece_some (b ∷ text) piece others is = by_feed (is_newline b) (lines_of text) is
  where
    by_feed : (feed : Bool) (lines : Lines) → cond feed (newline ∷ lines) (before_lines b lines) ≡ piece ∷ others
        → 0 < length piece
    by_feed true lines same = let size = ap (λ (ls : Lines). length (get_or ls 0 [])) same in omega (arith, size)
    by_feed false [] same = let size = ap (λ (ls : Lines). length (get_or ls 0 [])) same in omega (arith, size)
    by_feed false (l ∷ lines) same = let size = ap (λ (ls : Lines). length (get_or ls 0 [])) same in omega (arith, size)

-- what follows the first line of a text is shorter than the text
pub cut_shorter : (text piece rest : List ℕ) → lines_of text ≡ piece ∷ lines_of rest → length rest < length text
cut_shorter text piece rest cut =
    let whole : text ≡ piece ++ rest =
    first_line text piece (lines_of rest) cut ∙ ap (λ (r : List ℕ). piece ++ r) (concat-lines_of rest) in
    omega (arith, ap length whole, length-append piece rest, piece_some text piece (lines_of rest) cut)

-- a line of which this rest is still to be written
pub record IsWriting (line rest : List ℕ) (a b : Output) : Type 0 where
  pub front : Lines
  pub cut : lines_of line ≡ front ++ lines_of rest
  pub wrote : WroteLines a b front

pub writing_none : (line : List ℕ) (a : Output) → IsWriting line line a a
writing_none line a = record { front = []; cut = refl; wrote = Wrote-none a }

pub writing_more : (line rest piece behind : List ℕ) (a b c : Output) → IsWriting line rest a b
    → lines_of rest ≡ piece ∷ lines_of behind → WroteLines b c (piece ∷ []) → IsWriting line behind a c
writing_more line rest piece behind a b c is cut wrote = record {
  front = is.front ++ piece ∷ [];
  cut =
      is.cut ∙ ap (λ (ls : Lines). is.front ++ ls) cut
      ∙ sym (append_assoc is.front (piece ∷ []) (lines_of behind));
  wrote = Wrote-join a b c is.front (piece ∷ []) is.wrote wrote;
}

pub writing_all : (line rest : List ℕ) (a b : Output) → IsWriting line rest a b → length rest ≡ 0
    → PutsOn None a None b (line ∷ [])
writing_all line [] a b is none =
    puts_wrote a b line (subst (WroteLines a b) (sym (is.cut ∙ append-nil is.front)) is.wrote)
writing_all line (c ∷ rest) a b is none = absurd (omega (arith, none))

pub writing_cut : (line rest piece behind : List ℕ) (a b c : Output) → IsWriting line rest a b
    → lines_of rest ≡ piece ∷ lines_of behind → CutShort b c (piece ∷ [])
    → PutsOn None a (Some fault.Failed) c (line ∷ [])
writing_cut line rest piece behind a b c is cut short =
    puts_left fault.Failed a c line
    (subst (CutShort a c) (sym (is.cut ∙ ap (λ (ls : Lines). is.front ++ ls) cut))
    (CutShort-after a b c is.front (piece ∷ lines_of behind) is.wrote
    (CutShort-more b c (piece ∷ []) (lines_of behind) short)))

-- a line for which there was no memory
pub puts_unformed : (a : Output) (line : List ℕ) → 0 < length line → PutsOn None a (Some fault.Memory) a (line ∷ [])
puts_unformed a line some =
    let piece = some_piece line some in
    puts_left fault.Memory a a line (subst (WroteFewer a a) (sym piece.1.1) (fewer-none a piece.0 piece.1.0))

-- a line that ends with a line feed has a byte
pub ended_some : (front : List ℕ) → 0 < length (front ++ newline)
ended_some front = omega (arith, length-append front newline)

-- one number more, and one item more
pub puts_next : (f g h : Option CampaignFault) (a b c : Output) (line : ℕ → List ℕ) (k : ℕ)
    → PutsOn f a g b (map line (below k)) → PutsOn g b h c (line k ∷ []) → PutsOn f a h c (map line (below (k + 1)))
puts_next f g h a b c line k p q = rw (map-next line k) (puts_then f g h a b c (map line (below k)) (line k ∷ []) p q)

pub puts_item : {X : Type 0} (line : X → List ℕ) (xs : List X) (k : ℕ) (d : X) (f g h : Option CampaignFault)
    (a b c : Output) → PutsOn f a g b (map line (take k xs)) → k < length xs
    → PutsOn g b h c (line (get_or xs k d) ∷ [])
    → PutsOn f a h c (map line (take (k + 1) xs))
puts_item {X} line xs k d f g h a b c p within q =
    subst (PutsOn f a h c)
    (sym (ap (map line) (take_more xs k d within) ∙ map-append line (take k xs) (get_or xs k d ∷ [])))
    (puts_then f g h a b c (map line (take k xs)) (line (get_or xs k d) ∷ []) p q)

-- all of them
pub all_wrote : (a b : Output) (x : Lines) → PutsOn None a None b x → WroteLines a b (pieces_of x)
all_wrote a b x p = p.puts a [] (Wrote-none a)

pub all_left : (why : CampaignFault) (a b : Output) (x : Lines) → PutsOn None a (Some why) b x
    → LeftFewerBy why a b (pieces_of x)
all_left fault.Failed a b x p = p.puts a [] (Wrote-none a)
all_left fault.Memory a b x p = p.puts a [] (Wrote-none a)

pub ruleset puts = (
  puts_then,
  puts_none,
  puts_nothing,
  puts_unformed,
  writing_none,
  writing_more,
  writing_all,
  writing_cut,
  all_wrote,
  all_left,
)
