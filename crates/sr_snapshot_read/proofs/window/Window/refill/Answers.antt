use Rattle.std.proofs.Common.{◌≡◌, ℕ, List, length, take, drop, ap, ◌∙◌, arith}
use Rattle.sr_snapshot_read.proofs.Windows.{kept_front, refilled}
use Rattle.sr_snapshot_read.specs.Inner.Views.{View}
use Rattle.sr_snapshot_read.proofs.window.Window.refill.Goals as goal

pub returns-in-Ok-clause-over : goal.returns-in-Ok-clause-over
returns-in-Ok-clause-over g c told =
    let size = c.requires.size told in
    let view = ap (λ (v : View). v.size) c.self.view_is in
    let buffer : List ℕ = c.read_at.new.buffer in
    let long : length buffer ≡ length c.as_mut_slice.result.now = omega arith in
    let len : c.resize.new.self.len ≡ length buffer = omega (arith, long, c.as_mut_slice.ensures.len) in
    let kept : c.truncate.new.self.items ≡ take c.in-Ok.count buffer = c.truncate.ensures.items ∙ kept_front c.in-Ok.count c.resize.new.self.len buffer (drop (length buffer) c.resize.new.self.items) len in
    refilled _ c.self.inside.place c.self.inside.size (length c.as_mut_slice.result.now) c.in-Ok.count buffer c.truncate.new.self.items (omega (arith, size, view)) (c.in-Ok.ensures.read told) kept
