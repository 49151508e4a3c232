-- Notes of two nodes, all but one of which are of frames that both see alike.
use Rattle.std.specs.Prelude.{ℕ, zero, suc, ℤ, pos, ◌+ℤ◌, ◌-ℤ◌, ◌*ℤ◌, Bool, true, false, ◌&&◌, List, [], ◌∷◌}
use Rattle.std.specs.List.{list_all}
use Rattle.ttp_world.specs.Clock.{fta}
use Rattle.ttp_world.specs.Hypothesis.{is_within_bound}

-- the values at all places but one
abbrev pub without : ℕ → List ℤ → List ℤ
without place [] = []
without zero (z ∷ zs) = zs
without (suc place) (z ∷ zs) = z ∷ without place zs

-- there are as many of both, and those at one place differ by a shift, within plus or minus a bound
abbrev pub are_near : ℤ → ℤ → List ℤ → List ℤ → Bool
are_near shift near [] [] = true
are_near shift near [] (y ∷ ys) = false
are_near shift near (x ∷ xs) [] = false
are_near shift near (x ∷ xs) (y ∷ ys) = is_within_bound near ((x -ℤ y) -ℤ shift) && are_near shift near xs ys

-- any two of these differ by at most so much
abbrev pub are_within : ℤ → List ℤ → Bool
are_within wide [] = true
are_within wide (x ∷ xs) = list_all (λ y. is_within_bound wide (x -ℤ y)) xs && are_within wide xs

-- twice as far as the averages of two lists of notes are from a shift apart
abbrev pub twice_off : List ℤ → List ℤ → ℤ → ℤ
twice_off a b shift = ((fta a -ℤ fta b) -ℤ shift) *ℤ pos 2

-- how far that can be, where three notes lie within wide, and both nodes note them alike within near
abbrev pub pulled : ℤ → ℤ → ℤ
pulled near wide = wide +ℤ (near *ℤ pos 2 +ℤ pos 2)
