-- What hosts do in a slot, of what lies at its key.
use Rattle.ttp_world.proofs.Words.{◌≡◌, ℕ, suc, ◌+◌, Bool, true, false, cond, List, [], ◌∷◌, ◌++◌, length, Option, Some}
use Rattle.ttp_world.proofs.Words.{None, refl, ap, sym, ◌∙◌, append_assoc, length-append, arith, ◌==◌, map}
use Rattle.ttp_world.proofs.Words.{option_and_then, filter, cons_option, Event, Script, Keyed, keyed_read, keyed_writes}
use Rattle.ttp_world.proofs.Words.{HostWrite, write_in, read_in, write_of, write_at, writes_in, has_key, values_of}
use Rattle.std.proofs.Common.{add-zero}
use Rattle.std.specs.Prelude.{slice_get}
use Rattle.std.specs.List.{filter_map}
use Rattle.ttp_world.specs.declared.host_lines.HostRead.{HostRead}
use Rattle.ttp_world.specs.declared.script.Event.TheVariants as event
use Rattle.ttp_world.specs.HostLines.{keyed_write}

-- Reads.

read_more : (same : Bool) (read : Keyed HostRead) (reads : List (Keyed HostRead))
    → map (λ r. r.value) (cond same (read ∷ reads) reads)
    ≡ cons_option (cond same (Some read.value) None) (map (λ r. r.value) reads)
read_more true read reads = refl
read_more false read reads = refl

read_told : (slot : ℕ) (e : Event) (reads : List (Keyed HostRead))
    → values_of slot (cons_option (keyed_read e) reads) ≡ cons_option (read_in slot e) (values_of slot reads)
read_told slot (event.Read node at from) reads =
    read_more (at == slot) (record { key = at; value = record { host = node; source = from } })
    (filter (has_key slot) reads)
read_told slot e reads = refl

pub reads_told : (slot : ℕ) (events : List Event)
    → values_of slot (filter_map keyed_read events) ≡ filter_map (read_in slot) events
reads_told slot [] = refl
reads_told slot (e ∷ events) =
    read_told slot e (filter_map keyed_read events) ∙ ap (cons_option (read_in slot e)) (reads_told slot events)

-- Writes, which are found by their places.

cons_option-append : {X : Type 0} (o : Option X) (xs ys : List X) → cons_option o xs ++ ys ≡ cons_option o (xs ++ ys)
cons_option-append None xs ys = refl
cons_option-append (Some x) xs ys = refl

-- one event more behind those whose writes are known
pub keyed_writes-more : (place : ℕ) (events : List Event) (e : Event)
    → keyed_writes place (events ++ e ∷ [])
    ≡ keyed_writes place events ++ cons_option (keyed_write (place + length events) e) []
keyed_writes-more place [] e = ap (λ n. cons_option (keyed_write n e) []) (sym (add-zero place))
keyed_writes-more place (first ∷ events) e =
    let later : suc place + length events ≡ place + suc (length events) = omega arith in
    ap (cons_option (keyed_write place first))
    (keyed_writes-more (suc place) events e
    ∙ ap (λ n. keyed_writes (suc place) events ++ cons_option (keyed_write n e) []) later)
    ∙ sym (cons_option-append (keyed_write place first) (keyed_writes (suc place) events) _)

write_more : (at : ℕ → Option HostWrite) (same : Bool) (write : Keyed ℕ) (writes : List (Keyed ℕ))
    → filter_map at (map (λ w. w.value) (cond same (write ∷ writes) writes))
    ≡ cons_option (cond same (at write.value) None) (filter_map at (map (λ w. w.value) writes))
write_more at true write writes = refl
write_more at false write writes = refl

write_told : (at : ℕ → Option HostWrite) (slot place : ℕ) (e : Event) (writes : List (Keyed ℕ))
    → at place ≡ write_of e
    → filter_map at (values_of slot (cons_option (keyed_write place e) writes))
    ≡ cons_option (write_in slot e) (filter_map at (values_of slot writes))
write_told at slot place (event.Write node on payload) writes is =
    write_more at (on == slot) (record { key = on; value = place }) (filter (has_key slot) writes)
    ∙ ap (λ found. cons_option (cond (on == slot) found None) (filter_map at (values_of slot writes))) is
write_told at slot place e writes is = refl

slice_get-seam : {X : Type 0} (xs : List X) (y : X) (ys : List X) → slice_get (xs ++ y ∷ ys) (length xs) ≡ Some y
slice_get-seam [] y ys = refl
slice_get-seam (x ∷ xs) y ys = slice_get-seam xs y ys

-- events that begin at a place of all events
writes_from : (script : Script) (slot : ℕ) (before events : List Event) → script.events ≡ before ++ events
    → filter_map (write_at script) (values_of slot (keyed_writes (length before) events))
    ≡ filter_map (write_in slot) events
writes_from script slot before [] all = refl
writes_from script slot before (e ∷ events) all =
    let place = length before in
    let there : slice_get script.events place ≡ Some e =
    ap (λ es. slice_get es place) all ∙ slice_get-seam before e events in
    let later = all ∙ sym (append_assoc before (e ∷ []) events) in
    let next : suc place ≡ length (before ++ e ∷ []) = omega (arith, length-append before (e ∷ [])) in
    write_told (write_at script) slot place e (keyed_writes (suc place) events)
    (ap (option_and_then write_of) there)
    ∙ ap (cons_option (write_in slot e))
    (ap (λ n. filter_map (write_at script) (values_of slot (keyed_writes n events))) next
    ∙ writes_from script slot (before ++ e ∷ []) events later)

pub writes_told : (script : Script) (slot : ℕ)
    → filter_map (write_at script) (values_of slot (keyed_writes 0 script.events)) ≡ writes_in script slot
writes_told script slot = writes_from script slot [] script.events refl
