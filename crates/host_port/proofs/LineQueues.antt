-- Pairs that wait in queues, one queue for each place, and become lines in the order of the reads.
use Rattle.host_port.proofs.Names.{◌≡◌, ◌≢◌, ℕ, ◌+◌, ◌<◌, List, [], ◌∷◌, ◌++◌, length, map, take, drop, set, get_or}
use Rattle.host_port.proofs.Names.{Option, Some, None, All, refl, sym, ap, ◌∙◌, arith, IfSome, option_to_list, Source}
use Rattle.host_port.proofs.Names.{ReadLine, source_place, got_of, calls_at, pairs_at, queue_at, AreQueued}
use Rattle.std.proofs.lemmas.Bool.Decides.{nat_tests}
use Rattle.std.proofs.lemmas.Grind.{common_steps}
use Rattle.std.proofs.lemmas.List.{map-append, map-set, get_or-map, get_or-set_same, get_or-set_other, length-map}
use Rattle.std.proofs.lemmas.List.{append-nil, append_assoc, drop_more, take_more}
use Rattle.std.proofs.lemmas.List.Elements.{filter-append, All-push}
use Rattle.std.proofs.Math.ListN.{get_or-map as get_or-map_default}
use Rattle.nbw_ring.specs.declared.view.Message.{Message}
use Rattle.nbw_ring.specs.States.{ReaderState}
use Rattle.host_port.proofs.ReaderLists.{within_list}

-- A queue is taken from.

pub queue_within : {A X : Type 0} (items : A → List X) (qs : List A) (k : ℕ) → 0 < length (get_or (map items qs) k [])
    → k < length qs
queue_within {X = X} items qs k some =
    let near = within_list (λ (xs : List X). 0 < length xs) [] (map items qs) k (λ none. omega arith) some in
    omega (arith, near, length-map qs items)

pub queue_before : {A X : Type 0} (items : A → List X) (qs : List A) (k : ℕ) (q : A) → k < length qs
    → q ≡ get_or qs k q → get_or (map items qs) k [] ≡ items q
queue_before items qs k q within here = get_or-map items qs k q [] within ∙ ap items (sym here)

pub queue_after : {A X : Type 0} (items : A → List X) (qs : List A) (k : ℕ) (q : A) → k < length qs
    → get_or (map items (set qs k q)) k [] ≡ items q
queue_after items qs k q within = ap (λ xs. get_or xs k []) (map-set items qs k q)
    ∙ get_or-set_same (map items qs) k (items q) [] (omega (arith, length-map qs items))

pub queue_other : {A X : Type 0} (items : A → List X) (qs : List A) (k other : ℕ) (q : A) → other ≢ k
    → get_or (map items (set qs k q)) other [] ≡ get_or (map items qs) other []
queue_other items qs k other q apart = ap (λ xs. get_or xs other []) (map-set items qs k q)
    ∙ get_or-set_other (map items qs) k other (items q) [] apart

pub if_taken : {A : Type 0} (first : Option A) (old before new after : List A) → old ≡ before → new ≡ after
    → before ≡ option_to_list first ++ after → IfSome first (λ x. old ≡ x ∷ new)
if_taken None old before new after was is taken = tt
if_taken (Some x) old before new after was is taken = was ∙ (taken ∙ ap (λ l. x ∷ l) (sym is))

-- the queue of a place, of those that the readers leave
pub queue_of : (readers : List (Option ReaderState)) (place : ℕ)
    → queue_at (map got_of readers) place ≡ got_of (get_or readers place None)
queue_of readers place = get_or-map_default got_of readers place None

-- Lines are made.

-- after the first i reads: their lines, and the pairs that are left for the others
pub record AreLined (calls : List Source) (whole : List (List Message)) (host i : ℕ) (lines : List ReadLine)
    (queues : List (List Message)) : Type 0 where
  pub sources : map (λ line. line.source) lines ≡ take i calls
  pub hosts : All (λ line. line.host ≡ host) lines
  pub pairs : (place : ℕ) → pairs_at place lines ++ queue_at queues place ≡ queue_at whole place
  pub queued : AreQueued (drop i calls) queues

calls_at-here : (place : ℕ) (from : Source) (calls : List Source) → source_place from ≡ place
    → calls_at place (from ∷ calls) ≡ 1 + calls_at place calls
calls_at-here place from calls same = grind (arith, common_steps, nat_tests)

calls_at-other : (place : ℕ) (from : Source) (calls : List Source) → source_place from ≢ place
    → calls_at place (from ∷ calls) ≡ calls_at place calls
calls_at-other place from calls apart = grind (arith, common_steps, nat_tests)

-- there is a pair for the next read
pub next_some : (calls : List Source) (i : ℕ) (from : Source) (queues : List (List Message)) → i < length calls
    → from ≡ get_or calls i from → AreQueued (drop i calls) queues → 0 < length (queue_at queues (source_place from))
next_some calls i from queues within here queued =
    let next : drop i calls ≡ from ∷ drop (i + 1) calls =
    drop_more calls i from within ∙ ap (λ f. f ∷ drop (i + 1) calls) (sym here) in
    let counted = ap (calls_at (source_place from)) next
    ∙ calls_at-here (source_place from) from (drop (i + 1) calls) refl in
    omega (arith, queued (source_place from), counted)

pairs_at-here : (place : ℕ) (lines : List ReadLine) (line : ReadLine) → source_place line.source ≡ place
    → pairs_at place (lines ++ line ∷ []) ≡ pairs_at place lines ++ line.pair ∷ []
pairs_at-here place lines line same = grind (arith, common_steps, nat_tests, filter-append, map-append)

pairs_at-other : (place : ℕ) (lines : List ReadLine) (line : ReadLine) → source_place line.source ≢ place
    → pairs_at place (lines ++ line ∷ []) ≡ pairs_at place lines
pairs_at-other place lines line apart = grind (arith, common_steps, nat_tests, filter-append, append-nil)

-- one line more, of the pair that was first in the queue of its source
pub lined_more : {calls : List Source} {whole before after : List (List Message)} {host i : ℕ} {lines : List ReadLine}
    (line : ReadLine) → AreLined calls whole host i lines before → i < length calls
    → line.source ≡ get_or calls i line.source → line.host ≡ host
    → queue_at before (source_place line.source) ≡ line.pair ∷ queue_at after (source_place line.source)
    → ((other : ℕ) → other ≢ source_place line.source → queue_at after other ≡ queue_at before other)
    → AreLined calls whole host (i + 1) (lines ++ line ∷ []) after
lined_more {calls} {whole} {before} {after} {host} {i} {lines} line so within from hosted first others =
    let next : drop i calls ≡ line.source ∷ drop (i + 1) calls =
    drop_more calls i line.source within ∙ ap (λ f. f ∷ drop (i + 1) calls) (sym from) in
    record {
      sources = map-append (λ l. l.source) lines (line ∷ [])
          ∙ ((λ k. so.sources k ++ from k ∷ []) ∙ sym (take_more calls i line.source within));
      hosts = All-push (λ l. l.host ≡ host) lines line so.hosts hosted;
      pairs = λ place. grind (
        arith,
        common_steps,
        nat_tests,
        append_assoc,
        pairs_at-here,
        pairs_at-other,
        so.pairs place,
      );
      queued = λ place. grind (arith, common_steps, nat_tests, calls_at-here, calls_at-other, so.queued place, next);
    }
