-- The members of a node of the world can be written in the digits that its list gives them.
use Rattle.std.proofs.Common.{ℕ, [], length}
use Rattle.ttp_base.proofs.SetWords.{HasWord, HasWord-nil, HasWord-filter, set_bits-small}
use Rattle.ttp_world.specs.declared.medl.Medl.{Medl}
use Rattle.ttp_world.specs.declared.script.Script.{Script}
use Rattle.ttp_world.specs.Diary.{Diary, History, diary_of, is_active}
use Rattle.ttp_world.specs.Medl.{node_limit, IsValid}
use Rattle.ttp_world.specs.Membership.{is_good, members_of}
use Rattle.ttp_world.specs.Past.{state_of}
use Rattle.ttp_world.specs.World.{node_past}
use Rattle.ttp_world.proofs.Lists.{node_limit-most, nodes-most}
use Rattle.ttp_world.proofs.Pasts.{elim_both}
use Rattle.line_text.specs.LineParts.{HasDigits}

members_of-word : (list : Medl) (k : ℕ) (diary : Diary) → IsValid list
    → HasWord (node_limit list) (members_of list k diary)
members_of-word list k diary valid =
    elim_both (is_active diary) _ [] (HasWord (node_limit list))
    (HasWord-filter (node_limit list) (is_good k diary) (length list.slots) valid.count.1 (nodes-most list valid))
    (HasWord-nil (node_limit list))

pub state_of-digits : (list : Medl) (script : Script) (history : History) (k : ℕ) → IsValid list
    → HasDigits list (state_of (node_past list script history k))
state_of-digits list script history k valid =
    set_bits-small (node_limit list) _ (members_of-word list k (diary_of history k) valid) (node_limit-most list)
