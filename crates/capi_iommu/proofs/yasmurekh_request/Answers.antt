-- One law for each return.
use Rattle.std.proofs.Common.{arith}
use Rattle.capi_room.proofs.Rooms.{short-told, long-told, short-kept}
use Rattle.capi_iommu.proofs.Faces.{short-left, long-left, long-answer, same_answer, same_left}
use Rattle.capi_iommu.proofs.yasmurekh_request.Goals as goal

pub returns-then-out-lt5 : goal.returns-then-out-lt5
returns-then-out-lt5 c =
    record {
      told = short-told 5 _ c.if-out-lt5.true;
      answer = short-kept 5 _ _ _ c.if-out-lt5.true;
      bytes = short-left 5 _ _ _ c.if-out-lt5.true;
    }

pub returns : goal.returns
returns c =
    record {
      told = long-told 5 _ (omega arith);
      answer = long-answer 5 _ _ _ _ _ (omega arith) c.put_answer.ensures (same_answer _ _ c.settings_at-settings.ensures _ _ _ _ _ _ _ _ _ _ c.face-a.ensures.answer);
      bytes = long-left 5 _ _ _ _ _ (omega arith) (same_left _ _ c.settings_at-settings.ensures _ _ _ _ _ _ _ _ _ _ _ c.face-a.ensures.bytes);
    }
