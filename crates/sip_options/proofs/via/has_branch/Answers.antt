use Rattle.std.proofs.Common.{◌≡◌, true, false}
use Rattle.sip_options.proofs.ViaParams.{params_here, params_forth, params_back, params_value, params_none}
use Rattle.sip_options.proofs.via.has_branch.Goals as goal

pub returns-in-Some-branch_value : goal.returns-in-Some-branch_value
returns-in-Some-branch_value c =
    let branch = c.args.branch.now in
    let rest = c.loop-param.rest.now in
    let param = c.in-Some.param.now in
    let behind = c.in-Some.behind.now in
    let value = c.in-Some-branch_value.value.now in
    let begins = c.in-Some.ensures.found in
    let named = c.in-Some-branch_value.ensures.found in (
      λ yes. c.loop-param.invariant.forth
          (params_here branch rest param behind begins value named (c.is_branch_value.ensures.0 yes)),
      λ has. c.is_branch_value.ensures.1 (params_value branch rest param behind begins value named (c.loop-param.invariant.back has)),
    )

pub loop-param-preserved : goal.loop-param-preserved
loop-param-preserved c =
    let branch = c.args.branch.now in
    let rest = c.loop-param.rest.now in
    let param = c.in-Some.param.now in
    let behind = c.in-Some.behind.now in
    let begins = c.in-Some.ensures.found in
    let other = c.in_default-branch_value.ensures.none in
    record {
      forth = λ has. c.loop-param.invariant.forth (params_forth branch rest param behind begins other has);
      back = λ has. params_back branch rest param behind begins other (c.loop-param.invariant.back has);
    }

pub returns : goal.returns
returns c = (
  λ no. absurd (let differ : false ≡ true = no in cc),
  λ has. absurd (params_none c.args.branch.now c.loop-param.rest.now c.in_default.ensures.none (c.loop-param.invariant.back has)),
)
