use Rattle.rolling_resolver.proofs.Renewing.{renewed-keeps, renews-by}
use Rattle.rolling_resolver.proofs.resolver.RollingResolver.renew.Goals as goal

pub returns-then-is_none-clause-renews : goal.returns-then-is_none-clause-renews
returns-then-is_none-clause-renews c =
    renews-by _ _ _ c.let_go.ensures.current c.let_go.ensures.older c.begin_next.ensures.begins

pub returns-then-is_none-clause-answers : goal.returns-then-is_none-clause-answers
returns-then-is_none-clause-answers c = renewed-keeps _ _ _ c.let_go.ensures.answers c.begin_next.ensures.begins
