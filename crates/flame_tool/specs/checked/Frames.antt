-- What a frame of the code stands for.
use Rattle.flame_tool.specs.Pictures.{PictureFrame}
use Rattle.flame_tool.specs.declared.sent_pictures.Frame.{Frame}

abbrev pub frame_of : Frame → PictureFrame
frame_of frame = record {
  title = frame.title.now;
  unit = frame.unit.now;
  is_root_below = frame.is_root_below;
  is_share = frame.is_share;
}
