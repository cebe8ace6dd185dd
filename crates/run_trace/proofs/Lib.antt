mod WritingItems
