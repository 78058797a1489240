-- That what C has of a resolver may go to another thread: the box that it owns, and what is in it.
use base.Shift.{Keyless}
use denote.Memory.{lone}
use denote.Param.Send.{AllSend, IsSend, owning_send, sendable, struct_send}
use denote.RattleType.{RattleType}
use denote.RawPtr.{Ptr}
use denote.Struct.Owning.{fields, shape, to}
use denote.Struct.Struct.{exits_of}
use mir.Raw.{raw}
use Rattle.libc.specs.Heap.{chunk-Keyless}
use Rattle.std.specs.Prelude.{Option, Some, None}
use Rattle.std_alloc.proofs.SendSync.{lies, quiet}
use Rattle.rolling_resolver.proofs.Crossing.{rolling_send}
use Rattle.rolling_resolver.specs.contracts.resolver.RollingResolver.{the_row as resolver_row}
use Rattle.wokhleas.specs.Handles.{boxed_as}
use Rattle.wokhleas.specs.contracts.handle.Handle as Handle
use Rattle.wokhleas.specs.contracts.held.Held as Held

boxed-Keyless : (R : RattleType) → IsSend R → (o : Option R.Denot) (p : Ptr) → Keyless (boxed_as R o p)
boxed-Keyless R s (Some x) p = (lies R s p x, chunk-Keyless (raw (lone R.mir)) p)
boxed-Keyless R s None p = tt

pub held-send : IsSend Held.the_row
held-send =
    let O = Held.the_type in
    let all : AllSend (fields O) = (search sendable, tt) in
    owning_send O all (λ d. boxed-Keyless resolver_row rolling_send d.state d.at)
    (λ k. quiet (to O) (exits_of k (fields O)) ((struct_send (shape O) all).leaving k))

pub handle-send : IsSend Handle.the_row
handle-send = search (sendable, held-send) depth 40
