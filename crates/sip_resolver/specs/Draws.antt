-- The random words of a draw.
unfoldable pub use Rattle.srv_choice.specs.Draws.{drawn}
