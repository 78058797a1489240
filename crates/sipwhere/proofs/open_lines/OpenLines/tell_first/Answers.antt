use Rattle.std.proofs.Common.{◌≡◌, ◌<◌, length, Some, get_or, sym, subst, inl, inr, refl}
use Rattle.sipwhere.proofs.Later.{zip-at}
use Rattle.sipwhere.specs.OpenLines.{IsResultOf}
use Rattle.sipwhere.specs.declared.line.Line.{Line}
use Rattle.sipwhere.proofs.open_lines.OpenLines.tell_first.Goals as goal

pub returns-clause-tells : goal.returns-clause-tells
returns-clause-tells g c = λ seat was.
    let before = rw (← c.self.view_is) at was in
    let lines = c.self.inside.lines.now in
    let results = c.self.inside.results.items in
    let told = c.self.inside.told in
    let line = c.in_ok-line.line.now in
    let result = c.in_ok-result.result.now in
    let looked = c.in_ok-line.ensures.lookup in
    let inside : told < length lines = looked.3.0 in
    let line-is : (d : Line) → get_or lines told d ≡ line = λ d. sym (looked.3.1 d) in
    let found : c.index.result.now ≡ Some result = sym c.in_ok-result.ensures.value in
    rw (← c.self.view_is) (record {
      inside = inside;
      tells = λ d.
          let is = zip-at (IsResultOf g.W.MessageWire.gives g.C.Clock.shows seat c.self.inside.settings) lines results told d
          (Some result) inside before.results (subst (λ it. it ≡ get_or results told it) found c.index.ensures) in
          record {
            line_outcome = result.line_outcome;
            became = is.became;
            told = elim c.tell-told.ensures.told [
              | inl printed ↦ inl (record {
                tries = c.as_slice.result.now;
                took = c.whole_milliseconds.result;
                account = c.in-Ok.account;
                accounted = rw c.in-Ok.is at is.account;
                printed = rw (line-is d) printed;
              })
              | inr five ↦ inr five
            ];
          };
    })

pub returns-in_default-clause-tells : goal.returns-in_default-clause-tells
returns-in_default-clause-tells g c = λ seat was.
    let before = rw (← c.self.view_is) at was in
    let lines = c.self.inside.lines.now in
    let results = c.self.inside.results.items in
    let told = c.self.inside.told in
    let result = c.in_ok-result.result.now in
    let looked = c.in_ok-line.ensures.lookup in
    let inside : told < length lines = looked.3.0 in
    let found : c.index.result.now ≡ Some result = sym c.in_ok-result.ensures.value in
    rw (← c.self.view_is) (record {
      inside = inside;
      tells = λ d.
          let is = zip-at (IsResultOf g.W.MessageWire.gives g.C.Clock.shows seat c.self.inside.settings) lines results told d
          (Some result) inside before.results (subst (λ it. it ≡ get_or results told it) found c.index.ensures) in
          record { line_outcome = result.line_outcome; became = is.became; told = inr refl };
    })
