use Rattle.std.proofs.lemmas.Grind.{common_steps}
use Rattle.std.proofs.Common.{◌≤◌, length, decimal, rules, arith}
use Rattle.std.proofs.lemmas.Fmt.{length-decimal-le}
use Rattle.view_texts.proofs.put_pieces.put_number.Goals as goal

pub write_digits-digits-requires : goal.write_digits-digits-requires
write_digits-digits-requires c =
    let few : length (decimal c.args.number) ≤ 20 = search (rules, length-decimal-le 20) in
    (omega arith, c.requires.within)

pub put_piece-requires-clause-room : goal.put_piece-requires-clause-room
put_piece-requires-clause-room c =
    let few : length (decimal c.args.number) ≤ 20 = search (rules, length-decimal-le 20) in
    omega (arith, c.write_digits-digits.ensures.start)

pub returns-clause-start : goal.returns-clause-start
returns-clause-start c =
    let few : length (decimal c.args.number) ≤ 20 = search (rules, length-decimal-le 20) in
    omega (arith, c.write_digits-digits.ensures.start, c.put_piece.ensures.start)

pub returns-clause-text : goal.returns-clause-text
returns-clause-text c = grind (arith, common_steps)
