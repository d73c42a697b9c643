use Rattle.std.proofs.Common.{◌≡◌, rules}
use Rattle.pair.proofs.Joins.{about_page, write_first, write_second}
use Rattle.pair.proofs.Writes.{written_first, written_second}
use Rattle.pair.proofs.pair.PairEditableImage.write.Goals as goal

pub returns-in-Some-First-clause-answer : goal.returns-in-Some-First-clause-answer
returns-in-Some-First-clause-answer g c =
    let a = g.A.Image.meaning c.args.self.now.first in
    let b = g.B.Image.meaning c.args.self.now.second in
    let e = rw c.in-Some-First.field-0-is at c.in-Some-First.ensures in
    write_first a b c.args.page _ _ _ e c.write.ensures.answer

pub returns-in-Some-First-clause-after : goal.returns-in-Some-First-clause-after
returns-in-Some-First-clause-after g c = search (rules, written_first)

pub returns-in-Some-Second-clause-answer : goal.returns-in-Some-Second-clause-answer
returns-in-Some-Second-clause-answer g c =
    let a = g.A.Image.meaning c.args.self.now.first in
    let b = g.B.Image.meaning c.args.self.now.second in
    let e = rw c.in-Some-Second.field-0-is at c.in-Some-Second.ensures in
    let told : c.map_err.result ≡ about_page c.args.page c.write-answer.result = grind rules in
    write_second a b c.args.page _ _ _ _ e told c.write-answer.ensures.answer

pub returns-in-Some-Second-clause-after : goal.returns-in-Some-Second-clause-after
returns-in-Some-Second-clause-after g c = search (rules, written_second)
