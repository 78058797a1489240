use Rattle.sip_selection.proofs.Finality.{final_is}
use Rattle.sip_selection.proofs.laws.law_resolutions_are_final.Goals as goal

pub returns : goal.returns
returns c = λ request caps words given more final. final_is caps words given more request final
