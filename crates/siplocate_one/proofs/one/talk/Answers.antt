use Rattle.std.proofs.Common.{◌≡◌, List, ◌∷◌, ◌++◌, [], ◌<◌, length, get_or, rules, ap, refl, sym, ◌∙◌, inr}
use Rattle.std.proofs.lemmas.Iterator.Adapters.{YieldsList-from_skip}
use Rattle.std.proofs.lemmas.Iterator.Splits.{YieldsList-from_lines}
use Rattle.std.proofs.lemmas.Iterator.Consumers.{YieldsList-turn, YieldsList-end}
use Rattle.std.proofs.lemmas.List.{length_push}
use Rattle.std.proofs.lemmas.Result.{err_from_is_err_and}
use Rattle.sip_selection.specs.Choice.{Resolution}
use Rattle.sip_selection.specs.Known.{Given}
use Rattle.sip_selection.specs.Selections.{SelectionValue, given_too, now_of}
use Rattle.siplocate_one.specs.Requests.{other_lines}
use Rattle.siplocate_one.specs.Talks.{goes, selected, told}
use Rattle.siplocate_one.proofs.Talks.{begun, next, fails, has_reply, ends, all_known}
use Rattle.siplocate_one.proofs.one.talk.Goals as goal
use Rattle.siplocate_one.proofs.one.talk.Goals.{In-Some, In-None}
use Rattle.siplocate_one.proofs.one.talk.Given.{Over}

-- the line of this turn
turn : (g : Over) (c : In-Some g) → (length c.loop-line.yielded < length (other_lines c.args.text.now))
    × (c.in-Some.line.now ≡ get_or (other_lines c.args.text.now) (length c.loop-line.yielded) c.in-Some.line.now)
turn g c =
    let whole = YieldsList-from_skip 1 (YieldsList-from_lines c.args.text.now (cc)) (cc) in
    YieldsList-turn whole c.loop-line.yielded _ c.loop-line.yielded_by _ _ c.in-Some.line c.in-Some.is c.next.ensures.steps

-- every line had its turn
all_turns : (g : Over) (c : In-None g) → length c.loop-line.yielded ≡ length (other_lines c.args.text.now)
all_turns g c =
    let whole = YieldsList-from_skip 1 (YieldsList-from_lines c.args.text.now (cc)) (cc) in
    let all = YieldsList-end whole c.loop-line.yielded _ c.loop-line.yielded_by _ _ c.in-None.is c.next.ensures.steps in
    all.1

pub loop-line-init : goal.loop-line-init
loop-line-init g c =
    let start = c.in_ok-talk.ensures in
    let none : c.in_ok-talk.talk.given ≡ [] = ap (λ (it : SelectionValue). it.given) start in
    record {
      can_next = search rules;
      is_finite = search rules;
      selection = start ∙ ap (selected c.args.families c.args.request) (sym none);
      talking = rw none (begun c.args.families c.args.request (other_lines c.args.text.now) (goes c.args.families c.args.request []) refl);
    }

pub returns-in_err-take-clause-read : goal.returns-in_err-take-clause-read
returns-in_err-take-clause-read g c = λ all known' replies e.
    let l = c.loop-line in
    let given = l.talk.given in
    let this = turn g (goal.at.returns-in_err-take-clause-read g c).In-Some in
    let k = has_reply c.args.families c.args.request (other_lines c.args.text.now) (length l.yielded) given
    (goes c.args.families c.args.request given) l.invariant.talking c.in-Some.line.now this.0 this.1 all known' replies e in
    let memory = c.in_err-take.ensures.read k.0 k.1 k.2 (ap (λ (it : SelectionValue). told (now_of it) k.0) l.invariant.selection ∙ k.3) in
    let r = err_from_is_err_and c.from_residual-in_err-take.result c.from_residual-in_err-take.ensures.1 in
    rw (r.1, r.2) memory

pub returns-in_err-take-clause-bad : goal.returns-in_err-take-clause-bad
returns-in_err-take-clause-bad g c =
    let l = c.loop-line in
    let given = l.talk.given in
    let this = turn g (goal.at.returns-in_err-take-clause-bad g c).In-Some in
    let r = err_from_is_err_and c.from_residual-in_err-take.result c.from_residual-in_err-take.ensures.1 in
    let here : now_of l.talk ≡ goes c.args.families c.args.request given = ap now_of l.invariant.selection in
    rw (r.1, r.2) (inr (fails c.args.families c.args.request (other_lines c.args.text.now) (length l.yielded) given
    (goes c.args.families c.args.request given) l.invariant.talking c.in-Some.line.now this.0 this.1
    c.in_err-take.field-0.0 (rw here at c.in_err-take.ensures.bad)))

pub loop-line-preserved : goal.loop-line-preserved
loop-line-preserved g c =
    let l = c.loop-line in
    let given : List Given = l.talk.given in
    let this = turn g (goal.at.loop-line-preserved g c).In-Some in
    let taken = c.in_ok-take.ensures.taken in
    let count = length_push l.yielded c.in-Some.line in
    let here : now_of l.talk ≡ goes c.args.families c.args.request given = ap now_of l.invariant.selection in
    let grown : c.take.new.self.given ≡ given ++ taken.more ∷ [] = ap (λ (it : SelectionValue). it.given) taken.is in
    let after = next c.args.families c.args.request (other_lines c.args.text.now) (length l.yielded) given
    (goes c.args.families c.args.request given) l.invariant.talking c.in-Some.line.now this.0 this.1
    taken.message taken.more (goes c.args.families c.args.request (given ++ taken.more ∷ [])) taken.reply
    (ap (λ (resolution : Resolution). told resolution taken.message) (sym here) ∙ taken.told_is)
    (λ found line. ap (λ (resolution : Resolution). told resolution found) (sym here) ∙ taken.each found line) refl in
    record {
      can_next = search rules;
      is_finite = search rules;
      selection = taken.is ∙ ap (λ (it : SelectionValue). given_too it taken.more.question taken.more.answer) l.invariant.selection
          ∙ ap (selected c.args.families c.args.request) (sym grown);
      talking = rw (count, grown) after;
    }

pub returns-clause-found : goal.returns-clause-found
returns-clause-found g c =
    let l = c.loop-line in
    let talking = l.invariant.talking in
    let given = l.talk.given in
    let all = all_turns g (goal.at.returns-clause-found g c).In-None in (
      talking.messages,
      given,
      ends c.args.families c.args.request (other_lines c.args.text.now) (length l.yielded) given
          (goes c.args.families c.args.request given) talking all,
      talking.talked,
      l.invariant.selection,
    )

pub returns-clause-read : goal.returns-clause-read
returns-clause-read g c = λ all known' replies e.
    let l = c.loop-line in
    let talking = l.invariant.talking in
    let given = l.talk.given in
    let done = all_turns g (goal.at.returns-clause-read g c).In-None in
    let same = all_known c.args.families c.args.request (other_lines c.args.text.now) (length l.yielded) given
    (goes c.args.families c.args.request given) talking done all known' replies e in
    l.invariant.selection ∙ ap (selected c.args.families c.args.request) same
