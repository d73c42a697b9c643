use Rattle.std.proofs.Common.{◌≡◌, rules}
use Rattle.pair.proofs.Joins.{about_page, out_first, out_second, read_first, read_second}
use Rattle.pair.proofs.pair.PairImage.read.Goals as goal

pub returns-in-Some-First : goal.returns-in-Some-First
returns-in-Some-First g c =
    let a = g.A.Image.meaning c.args.self.now.first in
    let b = g.B.Image.meaning c.args.self.now.second in
    let e = rw c.in-Some-First.field-0-is at c.in-Some-First.ensures in
    record {
      answer = read_first a b c.args.page _ _ _ e c.read.ensures.answer;
      out = out_first a b c.args.page _ _ _ e c.read.ensures.out;
    }

pub returns-in-Some-Second : goal.returns-in-Some-Second
returns-in-Some-Second g c =
    let a = g.A.Image.meaning c.args.self.now.first in
    let b = g.B.Image.meaning c.args.self.now.second in
    let e = rw c.in-Some-Second.field-0-is at c.in-Some-Second.ensures in
    let told : c.map_err.result ≡ about_page c.args.page c.read-answer.result = grind rules in
    record {
      answer = read_second a b c.args.page _ _ _ _ e told c.read-answer.ensures.answer;
      out = out_second a b c.args.page _ _ _ e c.read-answer.ensures.out;
    }
