-- Lists of rings and their writers, as a port grows.
use Rattle.host_port.proofs.Names.{◌≡◌, ℕ, ◌+◌, ◌<◌, ◌≤◌, List, [], ◌∷◌, ◌++◌, length, map, get_or, Option}
use Rattle.host_port.proofs.Names.{Some, None, ◌==◌, unwrap_or, inl, inr, refl, ap, ◌∙◌}
use Rattle.host_port.proofs.Names.{arith, below_more, cond, IfSome, cases_lt, cond_both, Source, word_count, at_source}
use Rattle.host_port.proofs.Names.{shape_of, message_shape, incoming_shape, IsNew, HaveBuffers}
use Rattle.std.proofs.lemmas.Option.{slice_get_past}
use Rattle.std.proofs.lemmas.List.{map-append, length-append, get_or_append_left, get_or_push, get_or_past}
use Rattle.nbw_ring.specs.States.{RingState, WriterState}
use Rattle.ttp_world.specs.declared.medl.Medl.{Medl}
use Rattle.ttp_world.specs.Medl.{no_plan, plan_at}
use Rattle.std.proofs.lemmas.List.Elements.{All-push}
use Rattle.nbw_ring.specs.declared.view.Shape.{Shape}
use Rattle.host_port.proofs.ReaderLists.{ring_written}
use Rattle.ttp_world.specs.declared.script.Source.TheVariants as source

-- the writers of the status ring and of the rings of the first k nodes
pub record AreNew (list : Medl) (node k : ℕ) (rings : List (Option RingState)) (writers : List (Option WriterState))
    : Type 0 where
  pub count : length writers ≡ k + 1
  pub own : map ring_written writers ≡ rings
  pub buffers : HaveBuffers list.buffers rings
  pub status : IsNew (incoming_shape list node source.Status) (get_or writers 0 None)
  pub nodes : (j : ℕ) → j < k → IsNew (incoming_shape list node (source.Node j)) (get_or writers (j + 1) None)

-- a new ring has the list's number of buffers
pub new_buffers : (list : Medl) (shape : Option Shape) (ring : Option RingState) (writer : Option WriterState)
    → IfSome shape (λ s. s.buffers ≡ list.buffers) → ring_written writer ≡ ring → IsNew shape writer
    → IfSome ring (λ r. r.shape.buffers ≡ list.buffers)
new_buffers list None ring writer of_list own new = rw (← own, new) tt
new_buffers list (Some shape) ring None of_list own new = absurd new
new_buffers list (Some shape) ring (Some w) of_list own new = rw (← own) (ap (λ s. s.buffers) new.0 ∙ of_list)

shape_of_list : (list : Medl) (node k : ℕ)
    → IfSome (incoming_shape list node (source.Node k)) (λ s. s.buffers ≡ list.buffers)
shape_of_list list node k =
    let P = λ (shape : Option Shape). IfSome shape (λ s. s.buffers ≡ list.buffers) in
    cond_both (k == node) None (message_shape list k) P (λ own. tt) (λ other.
    cond_both ((plan_at list k).payload == 0) None _ P (λ none. tt) (λ some. refl))

-- and of one node more
pub new_more : (list : Medl) (node k : ℕ) (rings : List (Option RingState)) (writers : List (Option WriterState))
    (ring : Option RingState) (writer : Option WriterState) → AreNew list node k rings writers
    → ring_written writer ≡ ring → IsNew (incoming_shape list node (source.Node k)) writer
    → AreNew list node (k + 1) (rings ++ ring ∷ []) (writers ++ writer ∷ [])
new_more list node k rings writers ring writer so own new =
    let many = so.count in record {
      count = omega (arith, length-append writers (writer ∷ []));
      own = map-append ring_written writers (writer ∷ []) ∙ (λ i. so.own i ++ own i ∷ []);
      buffers = All-push (λ r. IfSome r (λ s. s.shape.buffers ≡ list.buffers)) rings ring so.buffers
          (new_buffers list _ ring writer (shape_of_list list node k) own new);
      status = rw (get_or_append_left writers (writer ∷ []) None 0 (omega arith)) so.status;
      nodes = below_more _ _
          (λ j near. rw (get_or_append_left writers (writer ∷ []) None (j + 1) (omega arith)) (so.nodes j near))
          (rw (get_or_push writers writer None (k + 1) many) new);
    }

-- a node that is not there sends nothing
shape-past : (list : Medl) (node k : ℕ) → length list.slots ≤ k → incoming_shape list node (source.Node k) ≡ None
shape-past list node k past =
    cond_both (k == node) None (message_shape list k) (λ shape. shape ≡ None) (λ own. refl) (λ other.
    ap (λ plan. cond ((unwrap_or plan no_plan).payload == 0) None
    (Some (shape_of list (word_count (unwrap_or plan no_plan).payload)))) (slice_get_past list.slots k past))

-- once each node has its ring, each source has
pub new_all : (list : Medl) (node k : ℕ) (rings : List (Option RingState)) (writers : List (Option WriterState))
    → AreNew list node k rings writers → k ≡ length list.slots → (from : Source)
    → IsNew (incoming_shape list node from) (at_source writers from)
new_all list node k rings writers so all source.Status = so.status
new_all list node k rings writers so all (source.Node j) =
    elim (cases_lt j k) [
      | inl near ↦ so.nodes j near
      | inr past ↦
          let many = so.count in
          let over : length writers ≤ j + 1 = omega arith in
          rw (shape-past list node j (omega arith)) (get_or_past writers (j + 1) None over)
    ]
