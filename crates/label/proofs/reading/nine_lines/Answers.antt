use Rattle.std.proofs.Common.{ℕ, List, codes, sym, refl, ◌∙◌}
use Rattle.std.proofs.lemmas.Result.{err_from_is_err_and}
use Rattle.blake2.specs.declared.variant.Variant.{Variant}
use Rattle.byte_strings.specs.Strings.{listed}
use Rattle.lines.proofs.Readers.{accepted_line, refused_line}
use Rattle.lines.specs.Lines.{Line, fixed_line, number_line, bytes_line}
use Rattle.label.specs.Labels.{variant_line, layout_line}
use Rattle.label.specs.Rules.{digest_range, key_range, fanout_range, depth_range, page_range, salt_length_of}
use Rattle.label.proofs.Fronts.{first}
use Rattle.label.proofs.Names.{name_rules}
use Rattle.label.proofs.reading.nine_lines.Goals as goal

-- the nine lines, each at any number

abbrev kind : ℕ → Line (Unit {0})
kind n = fixed_line n (codes "kind=seal")

abbrev variant : ℕ → Line Variant
variant n = variant_line n (codes "variant=")

abbrev digest : Variant → ℕ → Line ℕ
digest v n = number_line n (codes "digest=") (digest_range v)

abbrev key : Variant → ℕ → Line ℕ
key v n = number_line n (codes "keybytes=") (key_range v)

abbrev fanout : ℕ → Line ℕ
fanout n = number_line n (codes "fanout=") fanout_range

abbrev depth : ℕ → Line ℕ
depth n = number_line n (codes "depth=") depth_range

abbrev page : ℕ → Line ℕ
page n = number_line n (codes "page=") page_range

abbrev salt : Variant → ℕ → Line (List ℕ)
salt v n = bytes_line n (codes "salt=") 16 (salt_length_of v)

abbrev layout : Variant → ℕ → Line (List ℕ)
layout v n = layout_line n (codes "layout=") v

-- the refused line, and the accepted ones before it, the last of these first

pub returns-in_err-fixed-clause-answer : goal.returns-in_err-fixed-clause-answer
returns-in_err-fixed-clause-answer c =
    let p = err_from_is_err_and c.from_residual.result c.from_residual.ensures.1 in
    rw (p.1, p.2)
    (refused_line kind _ 0 _ refl c.in_err-fixed.ensures.answer
    (c.requires, first c.args.lines.now.left))

pub returns-in_err-variant-clause-answer : goal.returns-in_err-variant-clause-answer
returns-in_err-variant-clause-answer c =
    let p = err_from_is_err_and c.from_residual-in_err-variant.result c.from_residual-in_err-variant.ensures.1 in
    rw (p.1, p.2)
    (refused_line variant _ 1 _ refl c.in_err-variant.ensures.answer
    (accepted_line kind _ 0 _ refl c.in_ok-fixed.ensures.answer c.in_ok-fixed.ensures.after
    (c.requires, first c.args.lines.now.left)))

pub returns-in_err-digest-clause-answer : goal.returns-in_err-digest-clause-answer
returns-in_err-digest-clause-answer c =
    let p = err_from_is_err_and c.from_residual-in_err-digest.result c.from_residual-in_err-digest.ensures.1 in
    rw (p.1, p.2)
    (refused_line (digest c.in_ok-variant.variant) _ 2 _ refl (rw c.digest_range.ensures at c.in_err-digest.ensures.answer)
    (accepted_line variant _ 1 _ refl c.in_ok-variant.ensures.answer c.in_ok-variant.ensures.after
    (accepted_line kind _ 0 _ refl c.in_ok-fixed.ensures.answer c.in_ok-fixed.ensures.after
    (c.requires, first c.args.lines.now.left))))

pub returns-in_err-key-clause-answer : goal.returns-in_err-key-clause-answer
returns-in_err-key-clause-answer c =
    let p = err_from_is_err_and c.from_residual-in_err-key.result c.from_residual-in_err-key.ensures.1 in
    rw (p.1, p.2)
    (refused_line (key c.in_ok-variant.variant) _ 3 _ refl (rw c.key_range.ensures at c.in_err-key.ensures.answer)
    (accepted_line (digest c.in_ok-variant.variant) _ 2 _ refl (rw c.digest_range.ensures at c.in_ok-digest.ensures.answer) c.in_ok-digest.ensures.after
    (accepted_line variant _ 1 _ refl c.in_ok-variant.ensures.answer c.in_ok-variant.ensures.after
    (accepted_line kind _ 0 _ refl c.in_ok-fixed.ensures.answer c.in_ok-fixed.ensures.after
    (c.requires, first c.args.lines.now.left)))))

pub returns-in_err-fanout-clause-answer : goal.returns-in_err-fanout-clause-answer
returns-in_err-fanout-clause-answer c =
    let p = err_from_is_err_and c.from_residual-in_err-fanout.result c.from_residual-in_err-fanout.ensures.1 in
    rw (p.1, p.2)
    (refused_line fanout _ 4 _ refl c.in_err-fanout.ensures.answer
    (accepted_line (key c.in_ok-variant.variant) _ 3 _ refl (rw c.key_range.ensures at c.in_ok-key.ensures.answer) c.in_ok-key.ensures.after
    (accepted_line (digest c.in_ok-variant.variant) _ 2 _ refl (rw c.digest_range.ensures at c.in_ok-digest.ensures.answer) c.in_ok-digest.ensures.after
    (accepted_line variant _ 1 _ refl c.in_ok-variant.ensures.answer c.in_ok-variant.ensures.after
    (accepted_line kind _ 0 _ refl c.in_ok-fixed.ensures.answer c.in_ok-fixed.ensures.after
    (c.requires, first c.args.lines.now.left))))))

pub returns-in_err-depth-clause-answer : goal.returns-in_err-depth-clause-answer
returns-in_err-depth-clause-answer c =
    let p = err_from_is_err_and c.from_residual-in_err-depth.result c.from_residual-in_err-depth.ensures.1 in
    rw (p.1, p.2)
    (refused_line depth _ 5 _ refl c.in_err-depth.ensures.answer
    (accepted_line fanout _ 4 _ refl c.in_ok-fanout.ensures.answer c.in_ok-fanout.ensures.after
    (accepted_line (key c.in_ok-variant.variant) _ 3 _ refl (rw c.key_range.ensures at c.in_ok-key.ensures.answer) c.in_ok-key.ensures.after
    (accepted_line (digest c.in_ok-variant.variant) _ 2 _ refl (rw c.digest_range.ensures at c.in_ok-digest.ensures.answer) c.in_ok-digest.ensures.after
    (accepted_line variant _ 1 _ refl c.in_ok-variant.ensures.answer c.in_ok-variant.ensures.after
    (accepted_line kind _ 0 _ refl c.in_ok-fixed.ensures.answer c.in_ok-fixed.ensures.after
    (c.requires, first c.args.lines.now.left)))))))

pub returns-in_err-page-clause-answer : goal.returns-in_err-page-clause-answer
returns-in_err-page-clause-answer c =
    let p = err_from_is_err_and c.from_residual-in_err-page.result c.from_residual-in_err-page.ensures.1 in
    rw (p.1, p.2)
    (refused_line page _ 6 _ refl c.in_err-page.ensures.answer
    (accepted_line depth _ 5 _ refl c.in_ok-depth.ensures.answer c.in_ok-depth.ensures.after
    (accepted_line fanout _ 4 _ refl c.in_ok-fanout.ensures.answer c.in_ok-fanout.ensures.after
    (accepted_line (key c.in_ok-variant.variant) _ 3 _ refl (rw c.key_range.ensures at c.in_ok-key.ensures.answer) c.in_ok-key.ensures.after
    (accepted_line (digest c.in_ok-variant.variant) _ 2 _ refl (rw c.digest_range.ensures at c.in_ok-digest.ensures.answer) c.in_ok-digest.ensures.after
    (accepted_line variant _ 1 _ refl c.in_ok-variant.ensures.answer c.in_ok-variant.ensures.after
    (accepted_line kind _ 0 _ refl c.in_ok-fixed.ensures.answer c.in_ok-fixed.ensures.after
    (c.requires, first c.args.lines.now.left))))))))

pub returns-in_err-salt-clause-answer : goal.returns-in_err-salt-clause-answer
returns-in_err-salt-clause-answer c =
    let p = err_from_is_err_and c.from_residual-in_err-salt.result c.from_residual-in_err-salt.ensures.1 in
    rw (p.1, p.2)
    (refused_line (salt c.in_ok-variant.variant) _ 7 _ refl (sym (rw c.salt_length.ensures.0 at c.in_err-salt.ensures.answer))
    (accepted_line page _ 6 _ refl c.in_ok-page.ensures.answer c.in_ok-page.ensures.after
    (accepted_line depth _ 5 _ refl c.in_ok-depth.ensures.answer c.in_ok-depth.ensures.after
    (accepted_line fanout _ 4 _ refl c.in_ok-fanout.ensures.answer c.in_ok-fanout.ensures.after
    (accepted_line (key c.in_ok-variant.variant) _ 3 _ refl (rw c.key_range.ensures at c.in_ok-key.ensures.answer) c.in_ok-key.ensures.after
    (accepted_line (digest c.in_ok-variant.variant) _ 2 _ refl (rw c.digest_range.ensures at c.in_ok-digest.ensures.answer) c.in_ok-digest.ensures.after
    (accepted_line variant _ 1 _ refl c.in_ok-variant.ensures.answer c.in_ok-variant.ensures.after
    (accepted_line kind _ 0 _ refl c.in_ok-fixed.ensures.answer c.in_ok-fixed.ensures.after
    (c.requires, first c.args.lines.now.left)))))))))

pub returns-in_err-layout-clause-answer : goal.returns-in_err-layout-clause-answer
returns-in_err-layout-clause-answer c =
    let p = err_from_is_err_and c.from_residual-in_err-layout.result c.from_residual-in_err-layout.ensures.1 in
    rw (p.1, p.2)
    (refused_line (layout c.in_ok-variant.variant) _ 8 _ refl (sym c.in_err-layout.ensures.answer)
    (accepted_line (salt c.in_ok-variant.variant) _ 7 _ refl (sym (rw c.salt_length.ensures.0 at c.in_ok-salt.ensures.answer)) c.in_ok-salt.ensures.after
    (accepted_line page _ 6 _ refl c.in_ok-page.ensures.answer c.in_ok-page.ensures.after
    (accepted_line depth _ 5 _ refl c.in_ok-depth.ensures.answer c.in_ok-depth.ensures.after
    (accepted_line fanout _ 4 _ refl c.in_ok-fanout.ensures.answer c.in_ok-fanout.ensures.after
    (accepted_line (key c.in_ok-variant.variant) _ 3 _ refl (rw c.key_range.ensures at c.in_ok-key.ensures.answer) c.in_ok-key.ensures.after
    (accepted_line (digest c.in_ok-variant.variant) _ 2 _ refl (rw c.digest_range.ensures at c.in_ok-digest.ensures.answer) c.in_ok-digest.ensures.after
    (accepted_line variant _ 1 _ refl c.in_ok-variant.ensures.answer c.in_ok-variant.ensures.after
    (accepted_line kind _ 0 _ refl c.in_ok-fixed.ensures.answer c.in_ok-fixed.ensures.after
    (c.requires, first c.args.lines.now.left))))))))))

-- all nine
pub returns : goal.returns
returns c =
    let nine = accepted_line (layout c.in_ok-variant.variant) _ 8 _ refl (sym c.in_ok-layout.ensures.answer) c.in_ok-layout.ensures.after
    (accepted_line (salt c.in_ok-variant.variant) _ 7 _ refl (sym (rw c.salt_length.ensures.0 at c.in_ok-salt.ensures.answer)) c.in_ok-salt.ensures.after
    (accepted_line page _ 6 _ refl c.in_ok-page.ensures.answer c.in_ok-page.ensures.after
    (accepted_line depth _ 5 _ refl c.in_ok-depth.ensures.answer c.in_ok-depth.ensures.after
    (accepted_line fanout _ 4 _ refl c.in_ok-fanout.ensures.answer c.in_ok-fanout.ensures.after
    (accepted_line (key c.in_ok-variant.variant) _ 3 _ refl (rw c.key_range.ensures at c.in_ok-key.ensures.answer) c.in_ok-key.ensures.after
    (accepted_line (digest c.in_ok-variant.variant) _ 2 _ refl (rw c.digest_range.ensures at c.in_ok-digest.ensures.answer) c.in_ok-digest.ensures.after
    (accepted_line variant _ 1 _ refl c.in_ok-variant.ensures.answer c.in_ok-variant.ensures.after
    (accepted_line kind _ 0 _ refl c.in_ok-fixed.ensures.answer c.in_ok-fixed.ensures.after
    (c.requires, first c.args.lines.now.left))))))))) in
    record { answer = nine.1; taken = nine.0 }

pub invariant_of-result : goal.invariant_of-result
invariant_of-result c =
    let digest = rw c.digest_range.ensures at c.in_ok-digest.ensures.range in
    let key = rw c.key_range.ensures at c.in_ok-key.ensures.range in
    let name = name_rules c.in_ok-variant.variant (listed c.in_ok-layout.layout) c.in_ok-layout.ensures.rules in
    record {
      digest_low = digest.0;
      digest_high = digest.1;
      key_high = key.1;
      fanout_low = c.in_ok-fanout.ensures.range.0;
      fanout_high = c.in_ok-fanout.ensures.range.1;
      depth_low = c.in_ok-depth.ensures.range.0;
      depth_high = c.in_ok-depth.ensures.range.1;
      page_low = c.in_ok-page.ensures.range.0;
      page_high = c.in_ok-page.ensures.range.1;
      salt_length = c.in_ok-salt.ensures.size ∙ c.salt_length.ensures.0;
      layout_low = name.0;
      layout_high = name.1;
      layout_bytes = name.2;
    }
