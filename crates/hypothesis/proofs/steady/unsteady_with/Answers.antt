use Rattle.hypothesis.proofs.Words.{◌≡◌, ℕ, suc, ◌+◌, ◌≤◌, max, Bool, true, false, not, cond, is_some, nat_le, List}
use Rattle.hypothesis.proofs.Words.{length, Some, None, ap, sym, ◌∙◌, rules, arith, most_nodes, has_node, Medl, Script}
use Rattle.hypothesis.proofs.Words.{ClusterStart, numbers_of, nodes_of, is_steady, IsValid, nodes-most, told_start}
use Rattle.hypothesis.proofs.Words.{HaveSameNodes, Course, has_four_in, lacks_four_in}
use Rattle.std.proofs.Common.{filter}
use Rattle.hypothesis.specs.Walks.{first_unsteady}
use Rattle.hypothesis.proofs.Firsts.{lack-found, lack-early, lack-next, lack-none, nothing}
use Rattle.hypothesis.proofs.SlotSteps.{same_steady}
use Rattle.hypothesis.proofs.steady.unsteady_with.Goals as goal
use Rattle.hypothesis.proofs.steady.unsteady_with.Goals.{then-is_some-via-then-is_some}
use Rattle.hypothesis.proofs.steady.unsteady_with.Goals.{then-is_some-via-else-is_some+then-slot-start}

unsteady-next : (list : Medl) (script : Script) (start : ClusterStart) (course : Course) (slot : ℕ) (faulty : List ℕ)
    (fine : Bool) → IsValid list → HaveSameNodes faulty (numbers_of (course.after (slot + 1)))
    → fine ≡ nat_le 4 (length (filter (is_steady list script faulty) (nodes_of list))) → start.slot ≤ slot + 1
    → is_some (first_unsteady list script start course slot) ≡ false
    → first_unsteady list script start course (slot + 1) ≡ cond fine None (Some (max slot start.slot))
unsteady-next list script start course slot faulty fine valid are is near none =
    let few : length list.slots ≤ most_nodes = nodes-most list valid in
    let enough : ℕ → Bool = has_four_in list script course in
    let next : suc slot ≡ slot + 1 = omega arith in
    let now : fine ≡ enough (slot + 1) = is ∙ ap (λ nodes. nat_le 4 (length nodes))
    (same_steady list script faulty (numbers_of (course.after (slot + 1))) few are) in
    lack-next (enough start.slot) fine (lacks_four_in list script course) start.slot slot near none
    (λ here. ap enough (sym here) ∙ sym now) (ap (λ t. not (enough t)) next ∙ ap not (sym now))

unsteady-still : (list : Medl) (script : Script) (start : ClusterStart) (course : Course) (slot : ℕ) (before : List ℕ)
    → IsValid list → HaveSameNodes before (numbers_of (course.after slot))
    → HaveSameNodes before (numbers_of (course.after (slot + 1))) → start.slot ≤ slot
    → is_some (first_unsteady list script start course slot) ≡ false
    → first_unsteady list script start course (slot + 1) ≡ None
unsteady-still list script start course slot before valid were are since none =
    let few : length list.slots ≤ most_nodes = nodes-most list valid in
    let enough : ℕ → Bool = has_four_in list script course in
    let next : suc slot ≡ slot + 1 = omega arith in
    let same : enough slot ≡ enough (slot + 1) = ap (λ nodes. nat_le 4 (length nodes))
    (same_steady list script (numbers_of (course.after slot)) (numbers_of (course.after (slot + 1))) few
    (λ k small. sym (were k small) ∙ are k small)) in
    let fine : enough (slot + 1) ≡ true = sym same ∙ lack-none enough start.slot slot since none in
    lack-next (enough start.slot) true (lacks_four_in list script course) start.slot slot (omega (arith, since)) none
    (λ here. absurd (omega (arith, since, here))) (ap (λ t. not (enough t)) next ∙ ap not fine)

pub returns-then-is_some : goal.returns-then-is_some
returns-then-is_some c = λ course were are so_far.
    let list = c.args.list.now in
    let script = c.args.script.now in
    let start = told_start c.args.start in
    let slot = c.args.slot in
    let enough : Bool = has_four_in list script course start.slot in
    elim c.then-is_some.branch [
      | then-is_some-via-then-is_some w ↦
          let found : is_some c.args.unsteady ≡ true = search rules in
          so_far
          ∙ lack-found enough (lacks_four_in list script course) start.slot slot (ap is_some (sym so_far) ∙ found)
      | then-is_some-via-else-is_some+then-slot-start w ↦
          so_far ∙ lack-early enough (lacks_four_in list script course) start.slot slot (omega arith)
    ]

pub returns-then-has_four_steady : goal.returns-then-has_four_steady
returns-then-has_four_steady c = λ course were are so_far.
    let none : is_some c.args.unsteady ≡ false = search rules in
    let fine : c.has_four_steady.result ≡ true = search rules in
    sym (unsteady-next c.args.list.now c.args.script.now
    (told_start c.args.start) course c.args.slot c.args.faulty c.has_four_steady.result c.requires.valid
    are c.has_four_steady.ensures (omega arith) (ap is_some (sym so_far) ∙ none)
    ∙ ap (λ b. cond b None (Some (max c.args.slot c.args.start.slot))) fine)

pub returns-else-has_four_steady : goal.returns-else-has_four_steady
returns-else-has_four_steady c = λ course were are so_far.
    let none : is_some c.args.unsteady ≡ false = search rules in
    let few : c.has_four_steady.result ≡ false = search rules in
    let last : max c.args.slot c.args.start.slot ≡ c.max.result = search rules in
    sym (unsteady-next c.args.list.now c.args.script.now
    (told_start c.args.start) course c.args.slot c.args.faulty c.has_four_steady.result c.requires.valid
    are c.has_four_steady.ensures (omega arith) (ap is_some (sym so_far) ∙ none)
    ∙ ap (λ b. cond b None (Some (max c.args.slot c.args.start.slot))) few ∙ ap Some last)

pub returns-then-eq : goal.returns-then-eq
returns-then-eq c = λ course were are so_far.
    let list = c.args.list.now in
    let script = c.args.script.now in
    let start = told_start c.args.start in
    let slot = c.args.slot in
    let none : is_some c.args.unsteady ≡ false = search rules in
    let same : c.args.before ≡ c.args.faulty = search rules in
    nothing c.args.unsteady none
    ∙ sym (unsteady-still list script start course slot c.args.before c.requires.valid were
    (λ k small. ap (λ nodes. has_node nodes k) same ∙ are k small)
    c.if-start-slot.true (ap is_some (sym so_far) ∙ none))
