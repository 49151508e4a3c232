-- Outcomes that are given, and what they sum up to.
use Rattle.std.specs.Prelude.{ℤ, pos, negsuc, false, true, List, [], ◌∷◌, map, codes, Some, None}
use Rattle.std.specs.List.{zip}
use Rattle.clock_margins.specs.declared.margin.Margin.{Margin}
use Rattle.clock_margins.specs.declared.margin.Outcome.{Outcome}
use Rattle.clock_margins.specs.declared.margin.Total.{Total}
use Rattle.clock_margins.specs.Outcomes.{ValueTold}
use Rattle.clock_margins.specs.Ranges.{Range}

-- node 1 of three is swept: nobody leaves, it leaves alone, and the two others are hurt
abbrev pub nobody_left : Outcome
nobody_left = record { left = []; hurt = []; split = false; end = (0 ∷ 1 ∷ 2 ∷ []) ∷ [] }

abbrev pub left_alone : Outcome
left_alone = record { left = 1 ∷ []; hurt = []; split = false; end = (0 ∷ 2 ∷ []) ∷ [] }

abbrev pub hurting : Outcome
hurting = record { left = 0 ∷ 2 ∷ []; hurt = 0 ∷ 2 ∷ []; split = true; end = (1 ∷ []) ∷ [] }

-- nobody leaves, and two memberships are left
abbrev pub ends_apart : Outcome
ends_apart = record { left = []; hurt = []; split = false; end = (0 ∷ 1 ∷ 2 ∷ []) ∷ (0 ∷ 2 ∷ []) ∷ [] }

-- what is told of values with these outcomes
abbrev pub told_of_outcomes : List Outcome → List ℤ → List ValueTold
told_of_outcomes outcomes values =
    map (λ pair. record { value = pair.1; test = codes "keeps no H1 0"; outcome = pair.0 }) (zip outcomes values)

-- from where to where ranges go
abbrev pub spans : List Range → List (ℤ × ℤ)
spans ranges = map (λ range. (range.from, range.to)) ranges

-- nine values; three, of which 0 hurts others; and three that cost nobody
abbrev pub all_around : Margin
all_around = record {
  ranges = 6;
  counts = record { nobody = 3; itself = 3; others = 3 };
  free = Some (record { least = negsuc 0; greatest = pos 1 });
  below = Some (record { least = negsuc 3; greatest = negsuc 3 });
  above = Some (record { least = pos 3; greatest = pos 4 });
  most = 2;
}

abbrev pub only_above : Margin
only_above = record {
  ranges = 3;
  counts = record { nobody = 2; itself = 0; others = 1 };
  free = None;
  below = None;
  above = Some (record { least = pos 0; greatest = pos 0 });
  most = 2;
}

abbrev pub of_none : Margin
of_none = record {
  ranges = 1;
  counts = record { nobody = 3; itself = 0; others = 0 };
  free = Some (record { least = negsuc 0; greatest = pos 1 });
  below = None;
  above = None;
  most = 0;
}

-- two sweeps of nodes whose values go from -200 to 200, and both together
abbrev pub one_margin : Margin
one_margin = record {
  ranges = 5;
  counts = record { nobody = 163; itself = 148; others = 90 };
  free = Some (record { least = negsuc 78; greatest = pos 83 });
  below = Some (record { least = negsuc 136; greatest = negsuc 79 });
  above = Some (record { least = pos 84; greatest = pos 160 });
  most = 9;
}

abbrev pub other_margin : Margin
other_margin = record {
  ranges = 3;
  counts = record { nobody = 160; itself = 200; others = 41 };
  free = Some (record { least = negsuc 80; greatest = pos 78 });
  below = None;
  above = Some (record { least = pos 100; greatest = pos 140 });
  most = 4;
}

abbrev pub both_margins : Total
both_margins = record {
  sweeps = 2;
  values = 802;
  counts = record { nobody = 323; itself = 348; others = 131 };
  free = Some (record { least = negsuc 78; greatest = pos 78 });
  least = Some 80;
  most = 9;
}
