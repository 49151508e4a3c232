-- The ports that a table of sizes has are those of the lines that it was made of.
use Rattle.wave_text.proofs.Words.{◌≡◌, ℕ, ◌+◌, ◌<◌, ◌≤◌, List, [], ◌∷◌, ◌++◌, Option, Some, None, length, map}
use Rattle.wave_text.proofs.Words.{replicate, sym, ap, ◌∙◌, arith, All, flat_map, AllByRecursion, length-replicate}
use Rattle.wave_text.proofs.Words.{slice_get-get_or, get_or_from_slice_get, below, flat_map-next, HostLine, Port, What}
use Rattle.wave_text.proofs.Words.{all_whats, most_bytes, port_if, ports_of, HasMost, HasPlace, ports_in, size_at}
use Rattle.wave_text.proofs.Words.{table_place, HasLetters, HasSourceLetter}
use Rattle.std.proofs.lemmas.List.{get_or-replicate}
use Rattle.std.proofs.lemmas.List.Folds.{flat_map-map}
use Rattle.std.proofs.lemmas.List.Elements.{All-from_recursion}
use Rattle.ttp_base.specs.NodeSet.{most_nodes}
use Rattle.ttp_base.proofs.Below.{below-lt, flat_map_agree-below, map_each-below}
use Rattle.ttp_world.specs.declared.script.Source.TheVariants as source
use Rattle.shown_slot.specs.declared.host.What.TheVariants as what
use Rattle.wave_text.proofs.Tables.{place-lt}
use Rattle.wave_text.specs.declared.place.TheConstants.{PLACES}
use Rattle.ttp_world.proofs.LineLists.{each-append as all-append}

-- a table with nothing
pub none_noted : (k : ℕ) (does : What) → HasPlace k does → HasMost (replicate PLACES None) [] k does
none_noted k does has =
    let less = place-lt k does has in
    let within : table_place k does < length (replicate {A = Option ℕ} PLACES None) =
    omega (arith, less, length-replicate {A = Option ℕ} PLACES None) in
    slice_get-get_or (replicate PLACES None) (table_place k does) None within
    ∙ ap (λ (m : Option ℕ). Some m) (get_or-replicate PLACES (table_place k does) None None less)

-- Ports.

noted_port : (sizes : List (Option ℕ)) (lines : List HostLine) (k : ℕ) (does : What) → HasMost sizes lines k does
    → port_if k does (size_at sizes k does) ≡ port_if k does (most_bytes k does lines)
noted_port sizes lines k does is =
    ap (port_if k does) (get_or_from_slice_get sizes (table_place k does) (most_bytes k does lines) None is)

abbrev pub node_read : ℕ → What
node_read p = what.Read (source.Node p)

-- the ports of the nodes that a host reads, with one node more
pub next_node_read : (sizes : List (Option ℕ)) (k n : ℕ)
    → ports_in sizes (map node_read (below (n + 1))) k
    ≡ ports_in sizes (map node_read (below n)) k ++ port_if k (node_read n) (size_at sizes k (node_read n))
next_node_read sizes k n =
    let port : What → List Port = (λ does. port_if k does (size_at sizes k does)) in
    flat_map-map port node_read (below (n + 1)) ∙ flat_map-next (λ p. port (node_read p)) n
    ∙ ap (λ (ports : List Port). ports ++ port (node_read n)) (sym (flat_map-map port node_read (below n)))

-- for each of the nodes of a cluster what it does, and for all
abbrev pub AreNoted : List (Option ℕ) → List HostLine → Type 0
AreNoted sizes lines = (k : ℕ) (does : What) → HasPlace k does → HasMost sizes lines k does

noted_host : (sizes : List (Option ℕ)) (lines : List HostLine) (n k : ℕ) → AreNoted sizes lines → n ≤ most_nodes
    → k < most_nodes
    → ports_in sizes (all_whats n) k ≡ flat_map (λ does. port_if k does (most_bytes k does lines)) (all_whats n)
noted_host sizes lines n k are few less =
    let by_table : What → List Port = (λ does. port_if k does (size_at sizes k does)) in
    let by_lines : What → List Port = (λ does. port_if k does (most_bytes k does lines)) in
    let node : ℕ → What = (λ p. what.Read (source.Node p)) in
    let write : by_table what.Write ≡ by_lines what.Write =
    noted_port sizes lines k what.Write (are k what.Write (less, tt)) in
    let status : by_table (what.Read source.Status) ≡ by_lines (what.Read source.Status) =
    noted_port sizes lines k (what.Read source.Status) (are k (what.Read source.Status) (less, tt)) in
    let nodes : flat_map by_table (map node (below n)) ≡ flat_map by_lines (map node (below n)) =
    flat_map-map by_table node (below n)
    ∙ flat_map_agree-below (λ p. by_table (node p)) (λ p. by_lines (node p)) n
    (λ p below. noted_port sizes lines k (node p) (are k (node p) (less, omega (arith, below, few))))
    ∙ sym (flat_map-map by_lines node (below n)) in
    ap (λ (front : List Port). front
    ++ (by_table (what.Read source.Status) ++ flat_map by_table (map node (below n)))) write
    ∙ ap (λ (middle : List Port). by_lines what.Write ++ (middle ++ flat_map by_table (map node (below n)))) status
    ∙ ap (λ (end : List Port). by_lines what.Write ++ (by_lines (what.Read source.Status) ++ end)) nodes

pub noted_ports : (sizes : List (Option ℕ)) (lines : List HostLine) (n : ℕ) → AreNoted sizes lines → n ≤ most_nodes
    → flat_map (ports_in sizes (all_whats n)) (below n) ≡ ports_of n lines
noted_ports sizes lines n are few =
    flat_map_agree-below (ports_in sizes (all_whats n))
    (λ k. flat_map (λ does. port_if k does (most_bytes k does lines)) (all_whats n)) n
    (λ k below. noted_host sizes lines n k are few (omega (arith, below, few)))

-- Their letters.

all-flat_map : {X Y : Type 0} (P : Y → Type 0) (Q : X → Type 0) (f : X → List Y)
    → ((x : X) → Q x → AllByRecursion P (f x)) → (xs : List X) → AllByRecursion Q xs → AllByRecursion P (flat_map f xs)
all-flat_map P Q f each [] all = tt
all-flat_map P Q f each (x ∷ xs) all =
    all-append P (f x) (flat_map f xs) (each x all.0) (all-flat_map P Q f each xs all.1)

port_if-letters : (k : ℕ) (does : What) (size : Option ℕ) → HasPlace k does
    → AllByRecursion HasLetters (port_if k does size)
port_if-letters k does None has = tt
port_if-letters k does (Some size) has = (has, tt)

whats-letters : (n : ℕ) → n ≤ most_nodes → AllByRecursion HasSourceLetter (all_whats n)
whats-letters n few =
    (tt, (tt, map_each-below HasSourceLetter (λ p. what.Read (source.Node p)) n (λ p below. omega (arith, below, few))))

pub have_letters : (lines : List HostLine) (n : ℕ) → n ≤ most_nodes → All HasLetters (ports_of n lines)
have_letters lines n few =
    All-from_recursion HasLetters (ports_of n lines)
    (all-flat_map HasLetters (λ k. k < n)
    (λ k. flat_map (λ does. port_if k does (most_bytes k does lines)) (all_whats n))
    (λ k below. all-flat_map HasLetters HasSourceLetter (λ does. port_if k does (most_bytes k does lines))
    (λ does letter. port_if-letters k does (most_bytes k does lines) (omega (arith, below, few), letter))
    (all_whats n) (whats-letters n few)) (below n) (below-lt n))
