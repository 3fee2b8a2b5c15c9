use Rattle.messages.proofs.Digits.{figure, letter}
use Rattle.messages.proofs.hex_digits.digit_of.Goals as goal

pub returns-then-value-lt10 : goal.returns-then-value-lt10
returns-then-value-lt10 c = figure c.args.value c.if-value-lt10.true

pub returns-else-value-lt10 : goal.returns-else-value-lt10
returns-else-value-lt10 c = letter c.args.value c.requires c.if-value-lt10.false
