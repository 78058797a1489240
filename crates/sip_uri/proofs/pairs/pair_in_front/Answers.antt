use Rattle.std.proofs.Common.{◌≡◌, ℕ, Bool, List, ◌∷◌, ◌++◌, Option, Some, None, sym}
use Rattle.std.specs.Option.{option_map}
use Rattle.ip_text.specs.Parts.{behind_front}
use Rattle.sip_uri.specs.Readers.Pairs.{behind_end}
use Rattle.sip_uri.specs.Readers.Runs.{octets_of}
use Rattle.sip_uri.proofs.PairFronts.{bare_name, bare_value, bare_behind, bare_runs, bare_bad, valued_name, valued_value, valued_behind, valued_runs, valued_bad, front_there}
use Rattle.sip_uri.proofs.pairs.pair_in_front.Goals as goal
use Rattle.sip_uri.proofs.pairs.pair_in_front.Goals.{In-Some}

pub returns-in_err-behind-in-None : goal.returns-in_err-behind-in-None
returns-in_err-behind-in-None c =
    let front = c.run_in_front.result in
    let none : behind_front 61 front.1.now ≡ None = rw c.in-None.is at (sym c.behind_front.ensures) in
    let stop : behind_end c.args.mark front.1.now ≡ None = sym c.in_err-behind-in-None.ensures in
    rw c.from_residual.ensures
    (bare_bad (octets_of c.args.class) c.args.mark c.requires c.args.text.now front.0.now front.1.now
    c.run_in_front.ensures.joined c.run_in_front.ensures.run none stop c.run_in_front.ensures.ends)

pub returns-in_ok-behind-in-None : goal.returns-in_ok-behind-in-None
returns-in_ok-behind-in-None c =
    let class : ℕ → Bool = octets_of c.args.class in
    let name : List ℕ = c.run_in_front.result.0.now in
    let rest : List ℕ = c.run_in_front.result.1.now in
    let joined = c.run_in_front.ensures.joined in
    let run = c.run_in_front.ensures.run in
    let found : Option (List ℕ) = option_map (λ rest. rest.now) c.in_ok-behind-in-None.behind in
    let e : behind_end c.args.mark rest ≡ Some found = sym c.in_ok-behind-in-None.ensures in
    record {
      name = sym (bare_name class c.args.mark c.requires c.args.text.now name rest joined run found e);
      value = sym (bare_value class c.args.mark c.requires c.args.text.now name rest joined run found e);
      behind = sym (bare_behind class c.args.mark c.requires c.args.text.now name rest joined run found e);
      runs = bare_runs class c.args.mark c.requires c.args.text.now name rest joined run found e;
    }

valued_joined : (c : In-Some) → c.run_in_front.result.0.now ++ 61 ∷ c.in-Some.valued.now ≡ c.args.text.now
valued_joined c =
    let some : behind_front 61 c.run_in_front.result.1.now ≡ Some c.in-Some.valued.now = rw c.in-Some.is at (sym c.behind_front.ensures) in
    rw (front_there c.run_in_front.result.1.now c.in-Some.valued.now some) at c.run_in_front.ensures.joined

pub returns-in_err-behind-in-Some : goal.returns-in_err-behind-in-Some
returns-in_err-behind-in-Some c =
    let front = c.run_in_front-in-Some.result in
    let stop : behind_end c.args.mark front.1.now ≡ None = sym c.in_err-behind-in-Some.ensures in
    rw c.from_residual-in_err-behind-in-Some.ensures
    (valued_bad (octets_of c.args.class) c.args.mark c.requires c.args.text.now c.run_in_front.result.0.now c.in-Some.valued.now
    front.0.now front.1.now (valued_joined (goal.at.returns-in_err-behind-in-Some c).In-Some) c.run_in_front.ensures.run
    c.run_in_front-in-Some.ensures.joined c.run_in_front-in-Some.ensures.run stop c.run_in_front-in-Some.ensures.ends)

pub returns-in_ok-behind-in-Some : goal.returns-in_ok-behind-in-Some
returns-in_ok-behind-in-Some c =
    let class : ℕ → Bool = octets_of c.args.class in
    let text : List ℕ = c.args.text.now in
    let name : List ℕ = c.run_in_front.result.0.now in
    let valued : List ℕ = c.in-Some.valued.now in
    let value : List ℕ = c.run_in_front-in-Some.result.0.now in
    let rest : List ℕ = c.run_in_front-in-Some.result.1.now in
    let joined = valued_joined (goal.at.returns-in_ok-behind-in-Some c).In-Some in
    let run = c.run_in_front.ensures.run in
    let with_value = c.run_in_front-in-Some.ensures.joined in
    let good = c.run_in_front-in-Some.ensures.run in
    let found : Option (List ℕ) = option_map (λ rest. rest.now) c.in_ok-behind-in-Some.behind in
    let e : behind_end c.args.mark rest ≡ Some found = sym c.in_ok-behind-in-Some.ensures in
    record {
      name = sym (valued_name class c.args.mark c.requires text name valued value rest joined run with_value good);
      value = sym (valued_value class c.args.mark c.requires text name valued value rest joined run with_value good found e);
      behind = sym (valued_behind class c.args.mark c.requires text name valued value rest joined run with_value good found e);
      runs = valued_runs class c.args.mark c.requires text name valued value rest joined run with_value good found e;
    }
