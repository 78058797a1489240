use Rattle.std.proofs.Common.{◌≡◌, ◌==◌, ◌<◌, ℕ, List, length, get_or, ap, sym, ◌∙◌, rules, tests}
use Rattle.std.proofs.lemmas.Iterator.Splits.{YieldsList-from_slice_split}
use Rattle.std.proofs.lemmas.Iterator.Consumers.{YieldsList-from_enumerate, YieldsList-turn, YieldsList-end}
use Rattle.std.proofs.lemmas.List.{length_push}
use Rattle.std.proofs.lemmas.List.FromFn.{length-enumerate_from}
use Rattle.resolver_file.proofs.Taken.{local_put, no_more, not_local, numbered, says, says_only, some_more, taken_more}
use Rattle.resolver_file.specs.ResolverFiles.{FileValue, with_local}
use Rattle.resolver_file.specs.contracts.file.ResolverFile.{the_view}
use Rattle.ip_text.specs.declared.address.Address.{Address}
use Rattle.resolver_file.specs.ResolverLines.{lines_of}
use Rattle.resolver_file.proofs.file.ResolverFile.read.Goals as goal
use Rattle.resolver_file.proofs.file.ResolverFile.read.Goals.{In-Some, In-None, Joined-is_empty, then-is_empty+in_ok-push, else-is_empty}

-- the line of this turn, and its place
turn : (c : In-Some) → (c.in-Some.at ≡ length c.loop-at.yielded) × (length c.loop-at.yielded < length (lines_of c.args.text.now))
    × (c.in-Some.line.now ≡ get_or (lines_of c.args.text.now) (length c.loop-at.yielded) c.in-Some.line.now)
turn c =
    let whole = YieldsList-from_enumerate
    (YieldsList-from_slice_split _ (λ (octet : ℕ). octet == 10) c.args.text.now (cc) (cc) (cc) (λ x b q k. search (rules, tests))) (cc) in
    let this = YieldsList-turn whole c.loop-at.yielded _ c.loop-at.yielded_by _ _
    (c.in-Some.at, c.in-Some.line) c.in-Some.is c.next.ensures.steps in
    numbered (lines_of c.args.text.now) (length c.loop-at.yielded) c.in-Some.at c.in-Some.line.now this.0 this.1

-- every line had its turn
all_turns : (c : In-None) → length c.loop-at.yielded ≡ length (lines_of c.args.text.now)
all_turns c =
    let whole = YieldsList-from_enumerate
    (YieldsList-from_slice_split _ (λ (octet : ℕ). octet == 10) c.args.text.now (cc) (cc) (cc) (λ x b q k. search (rules, tests))) (cc) in
    let all = YieldsList-end whole c.loop-at.yielded _ c.loop-at.yielded_by _ _ c.in-None.is c.next.ensures.steps in
    all.1 ∙ length-enumerate_from 0 (lines_of c.args.text.now)

pub loop-at-preserved : goal.loop-at-preserved
loop-at-preserved c =
    let l = c.loop-at in
    let this = turn (goal.at.loop-at-preserved c).In-Some in
    record {
      can_next = search rules;
      is_finite = search rules;
      taken = rw (length_push l.yielded (c.in-Some.at, c.in-Some.line))
          (taken_more (lines_of c.args.text.now) (length l.yielded) c.in-Some.line.now this.1 this.2 l.file c.take_line.new.self
          l.invariant.taken c.in_ok-take_line.ensures.said (rw this.0 at c.in_ok-take_line.ensures.taken));
    }

local : (c : Joined-is_empty) → c.if-is_empty.file ≡ with_local c.loop-at.file
local c =
    let before : FileValue = the_view c.file-2.inside in
    elim c.if-is_empty.branch [
      | then-is_empty+in_ok-push w ↦ (
          let none = sym c.servers.ensures ∙ no_more c.servers.result.now (sym c.is_empty.ensures ∙ w.if-is_empty.true) in
          let none' = ap (λ (file : FileValue). file.servers) c.file-2.view_is ∙ none in
          w.file-is ∙ ap (λ (servers : List Address). record before { servers = servers }) w.in_ok-push.ensures.items
          ∙ local_put before none' ∙ ap with_local c.file-2.view_is)
      | else-is_empty w ↦ w.file-is
          ∙ not_local c.loop-at.file
          (some_more c.servers.result.now (sym c.is_empty.ensures ∙ w.if-is_empty.false) c.loop-at.file.servers c.servers.ensures)
    ]

pub returns-clause-found : goal.returns-clause-found
returns-clause-found c =
    says c.args.text.now (length c.loop-at.yielded) (all_turns (goal.at.returns-clause-found c).In-None) c.loop-at.file c.if-is_empty.file
    c.loop-at.invariant.taken (local (goal.at.returns-clause-found c).Joined-is_empty)

pub returns-clause-read : goal.returns-clause-read
returns-clause-read c =
    says_only c.args.text.now (length c.loop-at.yielded) (all_turns (goal.at.returns-clause-read c).In-None) c.loop-at.file
    c.if-is_empty.file c.loop-at.invariant.taken (local (goal.at.returns-clause-read c).Joined-is_empty)
