mod KeyRows
mod StepsInARow
mod InOrder
mod OffersInARow
mod RunsOffered
mod ListsOpened
mod StepsOpened
