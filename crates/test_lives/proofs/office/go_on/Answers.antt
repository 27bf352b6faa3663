use Rattle.std.proofs.Common.{rules, ◌≡◌, length, drop, ◌++◌}
use Rattle.world_lives_kept.specs.Inner.Kept.{AreOf}
use Rattle.test_lives.proofs.Running.{has_gone}
use Rattle.test_lives.specs.Inner.Lives.{HasRun}
use Rattle.test_lives.proofs.office.go_on.Goals as goal

pub returns : goal.returns
returns c =
    let ran : HasRun c.args.office c.in_ok-ran.ran.office = search rules in
    let known : AreOf c.args.put.now c.in_ok-ran.ran.office.kept.fetched = search rules in
    let tail : c.split_at.result.1.now ≡ drop (length c.args.office.kept.put) c.in_ok-ran.ran.office.kept.put = search rules in
    let is : c.push_all.new.list ≡ c.args.put.now ++ c.split_at.result.1.now = search rules in
    record { gone = has_gone c.args.office _ c.args.put.now c.push_all.new.list c.split_at.result.1.now ran known tail is }
