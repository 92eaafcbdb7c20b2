use Rattle.js_printer.proofs.Writing.{put_by_parts}
use Rattle.js_printer.proofs.writer.Printer.write.Goals as goal

pub returns : goal.returns
returns c =
    put_by_parts c.args.self.now c.args.spelled.now _ _ _ _ _ _ c.utf8.spelled c.front.ensures c.meets.ensures c.in_ok-push_space.ensures c.as_bytes.ensures.value c.in_ok-extend.ensures.ok c.back-self.ensures
