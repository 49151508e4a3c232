-- The lemmas of this crate that the proofs of crates above cite.
pub use Rattle.ttp_top.proofs.Callers.{judged_trace, own_text, ran, trace_within}
pub use Rattle.ttp_top.proofs.Calls.Promises.{promise}
pub use Rattle.ttp_top.proofs.Lists.Promises.{schedule_promise}
pub use Rattle.ttp_top.proofs.Samples.Promises.{sample_promise}
pub use Rattle.ttp_top.proofs.Scripts.Promises.{run_promise}
pub use Rattle.ttp_top.proofs.Tests.Promises.{keeps_promise, precision_promise}
pub use Rattle.ttp_top.proofs.Traces.Promises.{modes_promise, verify_promise}
