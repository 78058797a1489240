-- A list may go to another thread where its items may: who owns it owns its nodes.
use mathlib.Core.List.{List, [], ◌∷◌}
use base.Shift.{Keyless}
use denote.RattleType.{RattleType}
use denote.Memory.{lone}
use denote.Struct.Struct.{exits_of}
use denote.Struct.Owning.{shape, fields, to}
use denote.Param.Send.{IsSend, AllSend, owning_send, struct_send, sendable}
use mir.Raw.{raw}
use Rattle.libc.specs.Heap.{chunk-Keyless}
use Rattle.std.proofs.Crossing.{crosses}
use Rattle.std_alloc.proofs.SendSync.{quiet, lies}
use Rattle.pending_list.specs.Cells.{Cell, cells_own}
use Rattle.pending_list.specs.contracts.linked_list.LinkedList as LinkedList
use Rattle.pending_list.specs.contracts.list.PendingList as PendingList
use Rattle.pending_list.specs.contracts.node.Node.{the_row as node_row}
use Rattle.pending_list.specs.contracts.nodes.Nodes as Nodes
use Rattle.pending_list.specs.contracts.table.Table as Table
use Rattle.pending_list.proofs.nodes.Link.TheSendSync as link

node-send : (E : RattleType) → IsSend E → IsSend (node_row E)
node-send E s = search (sendable, link.the_send) depth 40

cells-Keyless : (N : RattleType) → IsSend N → (cs : List (Cell N.Denot)) → Keyless (cells_own N cs)
cells-Keyless N s [] = tt
cells-Keyless N s (c ∷ cs) =
    ((lies N s c.at c.value, chunk-Keyless (raw (lone N.mir)) c.at), cells-Keyless N s cs)

pub Nodes-send : (E : RattleType) → IsSend E → IsSend (Nodes.the_row E)
Nodes-send E s =
    let O = Nodes.the_type E in
    let all : AllSend (fields O) = (search sendable, tt) in
    owning_send O all (λ d. cells-Keyless (node_row E) (node-send E s) d.cells)
    (λ k. quiet (to O) (exits_of k (fields O)) ((struct_send (shape O) all).leaving k))

list-send : (E : RattleType) → IsSend E → IsSend (LinkedList.the_row E)
list-send E s = let nodes = Nodes-send E s in search (sendable, crosses, link.the_send) depth 100 fits 100000

table-send : (E : RattleType) → IsSend E → IsSend (Table.the_row E)
table-send E s = search (sendable, crosses, link.the_send) depth 100 fits 100000

pub PendingList-send : (T : RattleType) → IsSend T → IsSend (PendingList.the_row T)
PendingList-send T s = search (sendable, crosses, list-send, table-send) depth 100 fits 100000
