use Rattle.std.proofs.Common.{length, ◌≡◌, ◌∙◌, rules}
use Rattle.bench.proofs.Frames.{put_after, put_page, same_name}
use Rattle.image_tests.proofs.put_in_lent.Goals as goal

-- `put` leaves the buffer's loan as it was, so what it wrote is what comes back
pub returns-clause-after : goal.returns-clause-after
returns-clause-after c =
    let i = c.make-image.result in
    let j = c.put.new.image in
    let named = same_name _ _ j.extent i.extent j.locked i.locked c.put.ensures.frame ∙ c.make-image.ensures.lent in
    let told = λ (long : length j.buffer.now ≡ length c.args.buffer.now). put_after c.args.size c.args.locked _ i.buffer.now j.buffer.now _ _ i.extent j.extent i.locked j.locked c.args.page c.args.bytes.now _ c.make-image.ensures.meaning c.make-image.ensures.extent c.make-image.ensures.locked c.put.ensures.frame c.put.ensures.answer c.put.ensures.after long in
    grind (rules, told)

pub returns-clause-put : goal.returns-clause-put
returns-clause-put c =
    let i = c.make-image.result in
    let j = c.put.new.image in
    let named = same_name _ _ j.extent i.extent j.locked i.locked c.put.ensures.frame ∙ c.make-image.ensures.lent in
    let told = λ (long : length j.buffer.now ≡ length c.args.buffer.now). put_page c.args.size c.args.locked _ i.buffer.now j.buffer.now _ _ i.extent j.extent i.locked j.locked c.args.page c.args.bytes.now _ c.make-image.ensures.meaning c.make-image.ensures.extent c.make-image.ensures.locked c.put.ensures.frame c.put.ensures.answer c.put.ensures.after long in
    grind (rules, told)
