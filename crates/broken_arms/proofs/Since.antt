-- Since when a node is faulty.
use Rattle.std.proofs.Common.{◌≡◌, ℕ, suc, ◌+◌, ◌<◌, Bool, true, false, cond, not, ◌&&◌, ◌||◌, List, []}
use Rattle.std.proofs.Common.{◌∷◌, ◌++◌, Option, Some, None, is_some, refl, ap, sym, ◌∙◌, arith}
use Rattle.std.proofs.lemmas.Bool.{eqb-true}
use Rattle.std.proofs.lemmas.Bool.Decides.{nat_tests}
use Rattle.std.specs.List.{filter, list_any}
use Rattle.std.specs.Prelude.{◌==◌, nat_le, IfSome}
use Rattle.ttp_base.specs.NodeSet.{has_node}
use Rattle.ttp_world.proofs.WorldFacts.{has_node-append}
use Rattle.ttp_world.specs.declared.medl.Medl.{Medl}
use Rattle.ttp_world.specs.declared.script.Script.{Script}
use Rattle.ttp_world.specs.Hypothesis.{ClusterStart, FaultyNode, numbers_of, lesser, jumpers_in, nodes_made, loss_in}
use Rattle.ttp_world.specs.Returning.{slots_before, faulty_since, faulty_at, is_forgiven, is_long_faulty, two_rounds}
use Rattle.broken_arms.proofs.FromBelow.{nothing}
use Rattle.hypothesis.specs.Walks.{all_in}
use Rattle.broken_arms.specs.Arms.{faulty_from, by_since, by_near_fault, near_fault, why_not_owed}
use Rattle.broken_faults.specs.Faults.{faulty_in}
use Rattle.broken_arms.specs.Since.{IsSince}
use Rattle.broken_arms.proofs.Owed.{either-order}

-- Some are faulty just where one is found.

there-step : (k : ℕ) (f : FaultyNode) (faulty : List FaultyNode) (here : Bool) → (f.node == k) ≡ here
    → is_some (faulty_from faulty k) ≡ has_node (numbers_of faulty) k
    → is_some (faulty_from (f ∷ faulty) k) ≡ has_node (numbers_of (f ∷ faulty)) k
there-step k f faulty true is later = rw is (least-some f.slot (faulty_from faulty k))
  where
    least-some : (n : ℕ) (least : Option ℕ) → is_some (lesser n least) ≡ true
    least-some n None = refl
    least-some n (Some m) = refl
there-step k f faulty false is later = rw is later

pub there : (k : ℕ) (faulty : List FaultyNode) → is_some (faulty_from faulty k) ≡ has_node (numbers_of faulty) k
there k [] = refl
there k (f ∷ faulty) = there-step k f faulty (f.node == k) refl (there k faulty)

-- Those that stay.

stays-step : (k : ℕ) (gone : ℕ → Bool) (f : FaultyNode) (faulty : List FaultyNode) (here out : Bool)
    → (f.node == k) ≡ here → gone f.node ≡ out
    → faulty_from (filter (λ (g : FaultyNode). not (gone g.node)) faulty) k ≡ cond (gone k) None (faulty_from faulty k)
    → faulty_from (filter (λ (g : FaultyNode). not (gone g.node)) (f ∷ faulty)) k
    ≡ cond (gone k) None (faulty_from (f ∷ faulty) k)
stays-step k gone f faulty true true is out later =
    let same : gone k ≡ true = ap gone (sym (eqb-true f.node k is)) ∙ out in
    rw (out, same) (later ∙ rw same refl)
stays-step k gone f faulty true false is out later =
    let same : gone k ≡ false = ap gone (sym (eqb-true f.node k is)) ∙ out in
    let rest : faulty_from (filter (λ (g : FaultyNode). not (gone g.node)) faulty) k ≡ faulty_from faulty k =
    later ∙ ap (λ b. cond b None (faulty_from faulty k)) same in
    rw (out, same, is) (ap (lesser f.slot) rest)
stays-step k gone f faulty false true is out later = rw (out, is) later
stays-step k gone f faulty false false is out later = rw (out, is) later

either : (b : Bool) (found : Option ℕ) → found ≡ cond b found found
either true found = refl
either false found = refl

stays : (k : ℕ) (gone : ℕ → Bool) (faulty : List FaultyNode)
    → faulty_from (filter (λ (g : FaultyNode). not (gone g.node)) faulty) k ≡ cond (gone k) None (faulty_from faulty k)
stays k gone [] = either (gone k) None
stays k gone (f ∷ faulty) = stays-step k gone f faulty (f.node == k) (gone f.node) refl refl (stays k gone faulty)

-- Those that a slot makes so.

joins-step : (k slot j : ℕ) (here has : Bool) (rest all : Option ℕ) → (j == k) ≡ here
    → all ≡ cond has (lesser slot rest) rest
    → cond here (lesser slot all) all ≡ cond (here || has) (lesser slot rest) rest
joins-step k slot j true true rest all is later = ap (lesser slot) later ∙ twice rest
  where
    twice : (rest : Option ℕ) → lesser slot (lesser slot rest) ≡ lesser slot rest
    twice None = ap Some (omega arith)
    twice (Some n) = ap Some (omega arith)
joins-step k slot j true false rest all is later = ap (lesser slot) later
joins-step k slot j false has rest all is later = later

one-more : (k slot j : ℕ) (faulty : List FaultyNode)
    → faulty_from (record { slot = slot; node = j } ∷ faulty) k
    ≡ cond (j == k) (lesser slot (faulty_from faulty k)) (faulty_from faulty k)
one-more k slot j faulty = by (j == k) refl
  where
    by : (here : Bool) → (j == k) ≡ here → faulty_from (record { slot = slot; node = j } ∷ faulty) k
        ≡ cond here (lesser slot (faulty_from faulty k)) (faulty_from faulty k)
    by true is = rw is refl
    by false is = rw is refl

joins : (k slot : ℕ) (ks : List ℕ) (faulty : List FaultyNode)
    → faulty_from (all_in slot ks ++ faulty) k
    ≡ cond (has_node ks k) (lesser slot (faulty_from faulty k)) (faulty_from faulty k)
joins k slot [] faulty = refl
joins k slot (j ∷ ks) faulty =
    one-more k slot j (all_in slot ks ++ faulty)
    ∙ joins-step k slot j (j == k) (has_node ks k) (faulty_from faulty k)
    (faulty_from (all_in slot ks ++ faulty) k) refl
    (joins k slot ks faulty)

-- One slot more.

earlier : (slot : ℕ) (since : Option ℕ) → is_some since ≡ true
    → IfSome since (λ s. s < slot) → lesser slot since ≡ since
earlier slot None some before = absurd (grind arith)
earlier slot (Some s) some before = ap Some (omega (arith, before))

at-slot : (list : Medl) (script : Script) (start : ClusterStart) (node slot : ℕ)
    → faulty_from (faulty_at list script start slot) node
    ≡ cond (is_forgiven list script (slots_before list script start slot) slot node) None
    (faulty_from (faulty_since (slots_before list script start slot)) node)
at-slot list script start node slot =
    stays node (is_forgiven list script (slots_before list script start slot) slot)
    (faulty_since (slots_before list script start slot))

-- a node that is still faulty is so since when it was
pub still : (list : Medl) (script : Script) (start : ClusterStart) (node slot : ℕ) (since : Option ℕ)
    → IsSince list script start node slot since → has_node (faulty_in list script start slot) node ≡ true
    → faulty_from (faulty_at list script start slot) node ≡ since
still list script start node slot since is has =
    by (is_forgiven list script (slots_before list script start slot) slot node) refl
  where
    by : (gone : Bool) → is_forgiven list script (slots_before list script start slot) slot node ≡ gone
        → faulty_from (faulty_at list script start slot) node ≡ since
    by true out =
        let none : faulty_from (faulty_at list script start slot) node ≡ None =
        at-slot list script start node slot ∙ ap (λ b. cond b None
        (faulty_from (faulty_since (slots_before list script start slot)) node)) out in
        let some = there node (faulty_at list script start slot) ∙ has in
        absurd (grind (arith, ap is_some none, some))
    by false out =
        at-slot list script start node slot ∙ ap (λ b. cond b None
        (faulty_from (faulty_since (slots_before list script start slot)) node)) out ∙ is.value

pub no-longer : (list : Medl) (script : Script) (start : ClusterStart) (node slot : ℕ)
    → has_node (faulty_in list script start slot) node ≡ false
    → faulty_from (faulty_at list script start slot) node ≡ None
no-longer list script start node slot has =
    nothing (faulty_from (faulty_at list script start slot) node) (there node (faulty_at list script start slot) ∙ has)

-- who is faulty after a slot
after-slot : (list : Medl) (script : Script) (start : ClusterStart) (node slot : ℕ)
    → faulty_from (faulty_since (slots_before list script start (slot + 1))) node
    ≡ cond (has_node (nodes_made (loss_in list script start (faulty_in list script start slot) slot)
    ++ jumpers_in list script (faulty_in list script start slot) slot) node)
    (lesser slot (faulty_from (faulty_at list script start slot) node))
    (faulty_from (faulty_at list script start slot) node)
after-slot list script start node slot =
    let next : slot + 1 ≡ suc slot = omega arith in
    ap (λ n. faulty_from (faulty_since (slots_before list script start n)) node) next
    ∙ joins node slot (nodes_made (loss_in list script start (faulty_in list script start slot) slot)
    ++ jumpers_in list script (faulty_in list script start slot) slot) (faulty_at list script start slot)

both-ways : (b : Bool) (since other : Option ℕ) → other ≡ since → cond b other since ≡ since
both-ways true since other is = is
both-ways false since other is = refl

pub since-stays : (list : Medl) (script : Script) (start : ClusterStart) (node slot : ℕ) (since : Option ℕ)
    → IsSince list script start node slot since → has_node (faulty_in list script start slot) node ≡ true
    → IsSince list script start node (slot + 1) since
since-stays list script start node slot since is has =
    let here = still list script start node slot since is has in
    let some : is_some since ≡ true = ap is_some (sym here) ∙ there node (faulty_at list script start slot) ∙ has in
    record {
      value = after-slot list script start node slot
          ∙ (λ i. cond (has_node (nodes_made (loss_in list script start (faulty_in list script start slot) slot)
          ++ jumpers_in list script (faulty_in list script start slot) slot) node) (lesser slot (here i)) (here i))
          ∙ both-ways _ since (lesser slot since) (earlier slot since some is.bound);
      bound = wider slot since is.bound;
    }
  where
    wider : (slot : ℕ) (since : Option ℕ) → IfSome since (λ s. s < slot) → IfSome since (λ s. s < slot + 1)
    wider slot None bound = tt
    wider slot (Some s) bound = omega (arith, bound)

within : (slot : ℕ) (joined : Bool) → IfSome (cond joined (Some slot) None) (λ s. s < slot + 1)
within slot true = omega arith
within slot false = tt

-- one that is faulty no longer, or was not, is so since the slot, if it becomes so in it
pub since-new : (list : Medl) (script : Script) (start : ClusterStart) (node slot : ℕ) (joined : Bool)
    → has_node (faulty_in list script start slot) node ≡ false
    → (has_node (jumpers_in list script (faulty_in list script start slot) slot) node
    || has_node (nodes_made (loss_in list script start (faulty_in list script start slot) slot)) node) ≡ joined
    → IsSince list script start node (slot + 1) (cond joined (Some slot) None)
since-new list script start node slot joined has is =
    let J = jumpers_in list script (faulty_in list script start slot) slot in
    let M = nodes_made (loss_in list script start (faulty_in list script start slot) slot) in
    let here : has_node (M ++ J) node ≡ joined =
    has_node-append M J node ∙ either-order (has_node M node) (has_node J node) ∙ is in
    record {
      value = after-slot list script start node slot
          ∙ (λ i. cond (here i) (lesser slot (no-longer list script start node slot has i))
          (no-longer list script start node slot has i));
      bound = within slot joined;
    }

-- A node is faulty for long where it is so since long ago.

abbrev pub long_ago : ℕ → ℕ → Option ℕ → Bool
long_ago gap slot None = false
long_ago gap slot (Some since) = nat_le (since + gap) slot

long-lesser : (gap slot n : ℕ) (least : Option ℕ)
    → long_ago gap slot (lesser n least) ≡ (nat_le (n + gap) slot || long_ago gap slot least)
long-lesser gap slot n None = by (nat_le (n + gap) slot)
  where
    by : (b : Bool) → b ≡ (b || false)
    by true = refl
    by false = refl
long-lesser gap slot n (Some m) = grind (arith, nat_tests)

long-step : (k gap slot : ℕ) (f : FaultyNode) (faulty : List FaultyNode) (here : Bool) → (f.node == k) ≡ here
    → list_any (λ (g : FaultyNode). (g.node == k) && nat_le (g.slot + gap) slot) faulty
    ≡ long_ago gap slot (faulty_from faulty k)
    → list_any (λ (g : FaultyNode). (g.node == k) && nat_le (g.slot + gap) slot) (f ∷ faulty)
    ≡ long_ago gap slot (faulty_from (f ∷ faulty) k)
long-step k gap slot f faulty true is later =
    rw is (ap (λ b. nat_le (f.slot + gap) slot || b) later ∙ sym (long-lesser gap slot f.slot (faulty_from faulty k)))
long-step k gap slot f faulty false is later = rw is later

long-since : (k gap slot : ℕ) (faulty : List FaultyNode)
    → list_any (λ (g : FaultyNode). (g.node == k) && nat_le (g.slot + gap) slot) faulty
    ≡ long_ago gap slot (faulty_from faulty k)
long-since k gap slot [] = refl
long-since k gap slot (f ∷ faulty) = long-step k gap slot f faulty (f.node == k) refl (long-since k gap slot faulty)

pub long-faulty : (list : Medl) (script : Script) (start : ClusterStart) (k slot : ℕ) (since : Option ℕ)
    → faulty_from (faulty_at list script start slot) k ≡ since
    → is_long_faulty list script start k slot ≡ long_ago (two_rounds list) slot since
long-faulty list script start k slot since is =
    long-since k (two_rounds list) slot (faulty_at list script start slot) ∙ ap (long_ago (two_rounds list) slot) is

pub not-long : (list : Medl) (script : Script) (start : ClusterStart) (k slot : ℕ) (since : Option ℕ)
    → faulty_from (faulty_at list script start slot) k ≡ since → long_ago (two_rounds list) slot since ≡ false
    → Some (by_since list since) ≡ why_not_owed list script start k slot
not-long list script start k slot since is short =
    sym (λ i. cond ((long-faulty list script start k slot since is ∙ short) i)
    (by_near_fault list script start k slot (near_fault list script start slot)) (Some (by_since list (is i))))

pub is-long : (list : Medl) (script : Script) (start : ClusterStart) (k slot : ℕ) (since : Option ℕ)
    → faulty_from (faulty_at list script start slot) k ≡ since → long_ago (two_rounds list) slot since ≡ true
    → by_near_fault list script start k slot (near_fault list script start slot)
    ≡ why_not_owed list script start k slot
is-long list script start k slot since is long =
    sym (ap (λ b. cond b (by_near_fault list script start k slot (near_fault list script start slot))
    (Some (by_since list (faulty_from (faulty_at list script start slot) k))))
    (long-faulty list script start k slot since is ∙ long))
