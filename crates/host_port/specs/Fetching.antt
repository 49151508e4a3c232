-- How a controller takes its host's newest message.
use Rattle.std.specs.Prelude.{◌≡◌, ◌*◌, ◌≤◌, All, Option, Some, option_map}
use Rattle.nbw_ring.specs.Numbers.{newest_number, IsMessageOf}
use Rattle.nbw_ring.specs.States.{WriterState, ReaderState, with_joined}
use Rattle.host_port.specs.Rings.{PortState}

-- a fetcher is a reader of the port's outgoing ring
abbrev pub IsFetcherOf : PortState → ReaderState → Type 0
IsFetcherOf port fetcher = Some fetcher.ring ≡ port.outgoing

-- a writer once a reader is joined, if there is one
abbrev pub joined : Option WriterState → ReaderState → Option WriterState
joined writer reader = option_map (λ w. with_joined w reader) writer

-- what a reader got is the writer's messages
abbrev pub IsWhole : WriterState → ReaderState → Type 0
IsWhole writer reader = All (IsMessageOf writer.messages) reader.got

-- it loaded no counter above twice the writer's number
abbrev pub HasSeen : WriterState → ReaderState → Type 0
HasSeen writer reader = reader.seen ≤ 2 * newest_number writer.messages
