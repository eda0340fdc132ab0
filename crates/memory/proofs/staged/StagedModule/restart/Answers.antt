use Rattle.std.proofs.Common.{◌≡◌, ap, arith}
use Rattle.memory.specs.Meanings.{plan, shorter}
use Rattle.memory.proofs.Parts.{restarted, shorter_long}
use Rattle.memory.proofs.staged.StagedModule.restart.Goals as goal

pub returns : goal.returns
returns c =
    let s = c.args.self.now in
    let xs = s.current.now in
    let ys = s.sure.now in
    let w = c.width-w.result in
    let after = c.renew.ensures s.pattern in
    let all : w ≡ shorter xs ys = omega (arith, c.width-w.ensures, shorter_long xs ys) in
    record {
      restarted = restarted (plan s.power s.pattern) (plan c.renew.new.self s.pattern) xs ys c.find_words.new.current c.copy_run.new.to w all
          (ap (λ q. q.on) after) c.find_words.ensures c.copy_run.ensures;
      planned = after;
    }
