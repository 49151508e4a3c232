use Rattle.safety_laws.proofs.Words.{owner_of, candidates_of, expected_of}
use Rattle.safety_laws.specs.NodeSlot.{slot_place}
use Rattle.safety_laws.proofs.GroupSets.{AreCandidates-node}
use Rattle.safety_laws.proofs.Views.{view_of_bits-members, view_of_bits-cold_start, is_within_window-bounds}
use Rattle.safety_laws.proofs.slots.views.Goals as goal

pub returns-clause-inside : goal.returns-clause-inside
returns-clause-inside c = λ x members bytes deviation is frame within.
    view_of_bits-members x.list (slot_place x) (candidates_of x) members bytes deviation is.valid frame
    (AreCandidates-node x.list x.past.ack x.node (owner_of x) x.past.members is.valid is.node is.owner is.doubted
    is.members) within

pub returns-clause-cold_start : goal.returns-clause-cold_start
returns-clause-cold_start c = λ x p deviation.
    view_of_bits-cold_start x.list (expected_of x.list x.node x.past) p deviation

pub returns-clause-window : goal.returns-clause-window
returns-clause-window c = is_within_window-bounds
