-- The lines of a channel, node by node.
use Rattle.std.proofs.Common.{◌≡◌, ℕ, zero, suc, ◌+◌, ◌<◌, ◌≤◌, ◌⊎◌, inl, inr}
use Rattle.std.proofs.Common.{List, [], ◌∷◌, ◌++◌, length, map, filter, cond}
use Rattle.std.proofs.Common.{Bool, true, false, refl, add-one, ap, sym, arith, ◌∙◌}
use Rattle.std.specs.Prelude.{nat_le}
use Rattle.std.proofs.lemmas.Bool.{cases_eq, leb-false}
use Rattle.std.proofs.Common.{length-append}
use Rattle.std.proofs.lemmas.List.{map-append}
use Rattle.std.specs.List.{flat_map}
use Rattle.ttp_base.specs.NodeSet.{below}
use Rattle.ttp_base.specs.Text.{lines_below}
use Rattle.ttp_base.proofs.Below.{flat_map-next}
use Rattle.ttp_world.specs.declared.medl.Medl.{Medl}
use Rattle.ttp_world.specs.declared.node.Entry.{Entry}
use Rattle.ttp_world.specs.declared.script.Channel.{Channel}
use Rattle.ttp_world.specs.declared.script.Script.{Script}
use Rattle.ttp_world.specs.Diary.{History}
use Rattle.ttp_world.specs.Medium.{SentFrame, remaining_frames, remains}
use Rattle.bus_frames.specs.FrameText.{channel_lines, bus_line}
use Rattle.bus_frames.specs.Standing.{frames_there, frames_told, lines_of_node}

filter_append : {A : Type 0} (p : A → Bool) (xs ys : List A) → filter p (xs ++ ys) ≡ filter p xs ++ filter p ys
filter_append p [] ys = refl
filter_append p (x ∷ xs) ys =
    ap (λ rest. cond (p x) (x ∷ rest) rest) (filter_append p xs ys) ∙ pulled (p x) x (filter p xs) (filter p ys)
  where
    pulled : {A : Type 0} (keeps : Bool) (x : A) (xs ys : List A)
        → cond keeps (x ∷ xs ++ ys) (xs ++ ys) ≡ cond keeps (x ∷ xs) xs ++ ys
    pulled true x xs ys = refl
    pulled false x xs ys = refl

remaining_flat : (script : Script) (slot : ℕ) (c : Channel) (f : ℕ → List SentFrame) (ks : List ℕ)
    → remaining_frames script slot c (flat_map f ks) ≡ flat_map (λ k. remaining_frames script slot c (f k)) ks
remaining_flat script slot c f [] = refl
remaining_flat script slot c f (k ∷ ks) =
    filter_append (remains script slot c) (f k) (flat_map f ks)
    ∙ ap (λ rest. remaining_frames script slot c (f k) ++ rest) (remaining_flat script slot c f ks)

map_flat : {A B : Type 0} (g : A → B) (f : ℕ → List A) (ks : List ℕ)
    → map g (flat_map f ks) ≡ flat_map (λ k. map g (f k)) ks
map_flat g f [] = refl
map_flat g f (k ∷ ks) = map-append g (f k) (flat_map f ks) ∙ ap (λ rest. map g (f k) ++ rest) (map_flat g f ks)

none-of : {A : Type 0} (xs : List A) → length xs ≡ 0 → xs ≡ []
none-of [] is = refl
none-of (x ∷ xs) is = absurd (omega (arith, is))

-- where all give one, the one that a number gives is all
lone-below : {A : Type 0} (f : ℕ → List A) (x : A) (n k : ℕ) → k < n → f k ≡ x ∷ []
    → length (flat_map f (below n)) ≤ 1 → flat_map f (below n) ≡ x ∷ []
lone-below f x zero k less here few = absurd (omega (arith, less))
lone-below f x (suc m) k less here few =
    by-last (cases_eq k m) (λ inside few. lone-below f x m k inside here few)
  where
    before : flat_map f (below (suc m)) ≡ flat_map f (below m) ++ f m
    before = ap (λ n. flat_map f (below n)) (sym (add-one m)) ∙ flat_map-next f m

    many : length (flat_map f (below (suc m))) ≡ length (flat_map f (below m)) + length (f m)
    many = ap length before ∙ length-append (flat_map f (below m)) (f m)

    by-last : (k ≡ m) ⊎ (k ≡ m → ⊥)
        → (k < m → length (flat_map f (below m)) ≤ 1 → flat_map f (below m) ≡ x ∷ [])
        → flat_map f (below (suc m)) ≡ x ∷ []
    by-last (inl last) earlier =
        let own : f m ≡ x ∷ [] = ap f (sym last) ∙ here in
        let one = ap length own in
        before ∙ ap (λ xs. xs ++ f m) (none-of (flat_map f (below m)) (omega (arith, few, many, one))) ∙ own
    by-last (inr other) earlier =
        let inside : k < m = omega (arith, less, other) in
        let first = earlier inside (omega (arith, few, many)) in
        let one = ap length first in
        before ∙ ap (λ xs. xs ++ f m) first ∙ ap (λ xs. x ∷ xs) (none-of (f m) (omega (arith, few, many, one)))

module _ (list : Medl) (script : Script) (row : List Entry) (before : History) (c : Channel) where
  -- where no two frames lie on the channel, one that lies there is all
  pub frames-alone : (k : ℕ) (sent : SentFrame) → k < length list.slots
      → remaining_frames script (length before) c (frames_told list script row before k) ≡ sent ∷ []
      → nat_le 2 (length (frames_there list script row before c)) ≡ false
      → frames_there list script row before c ≡ sent ∷ []
  frames-alone k sent node here few =
      let told = frames_told list script row before in
      let all = remaining_flat script (length before) c told (below (length list.slots)) in
      let few = leb-false 2 (length (frames_there list script row before c)) few in
      let many = ap length all in
      all ∙ lone-below (λ k. remaining_frames script (length before) c (told k)) sent (length list.slots) k node here
      (omega (arith, few, many))

  -- the frames of the nodes so far that lie on the channel
  abbrev pub frames_so_far : ℕ → List SentFrame
  frames_so_far i =
      remaining_frames script (length before) c (flat_map (frames_told list script row before) (below i))

  pub lines-by-nodes : channel_lines list script row before c
      ≡ lines_below (lines_of_node list script row before c (frames_there list script row before c)) (length list.slots)
  lines-by-nodes =
      let told = frames_told list script row before in
      let line = bus_line list script before c (frames_there list script row before c) in
      ap (map line) (remaining_flat script (length before) c told (below (length list.slots)))
      ∙ map_flat line (λ k. remaining_frames script (length before) c (told k)) (below (length list.slots))

  pub one-more : (i : ℕ) → length (frames_so_far (i + 1))
      ≡ length (frames_so_far i)
      + length (remaining_frames script (length before) c (frames_told list script row before i))
  one-more i =
      let told = frames_told list script row before in
      ap (λ (fs : List SentFrame). length (remaining_frames script (length before) c fs)) (flat_map-next told i)
      ∙ ap length (filter_append (remains script (length before) c) (flat_map told (below i)) (told i))
      ∙ length-append (frames_so_far i) (remaining_frames script (length before) c (told i))
