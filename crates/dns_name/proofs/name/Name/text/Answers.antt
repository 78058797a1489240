use Rattle.std.specs.String.{string_bytes}
use Rattle.dns_name.specs.Texts.{text_of}
use Rattle.dns_name.proofs.TextLabels.{next_text, last_text}
use Rattle.dns_name.proofs.name.Name.text.Goals as goal

pub loop-label-preserved : goal.loop-label-preserved
loop-label-preserved c =
    let l = c.loop-label in
    let left = l.invariant in
    next_text l.octets.now (string_bytes l.text) (text_of c.args.self.now) left.0
    (string_bytes c.push_label.new.text) c.in-Some.label.now c.in-Some.others.now left.1 left.2 left.3
    (λ e. let h = c.in-Some.ensures.none e in cc)
    (λ label labels is e. c.in-Some.ensures.some label labels is e) c.in_ok-push_label.ensures

pub returns : goal.returns
returns c =
    let l = c.loop-label in
    let left = l.invariant in
    last_text l.octets.now (string_bytes l.text) (text_of c.args.self.now) left.0 left.1 left.2 left.3
    (λ label labels is e. c.in_default.ensures.some label labels is e)
